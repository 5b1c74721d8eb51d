use Rattle.fb_expect.proofs.lemmas.Common.{◌∙◌, List, length, ap, subst, sym, rules_of, Watcher}
use Rattle.fb_expect.specs.Judging.{IsFollowed}
use Rattle.fb_expect.proofs.lemmas.traces.Gathering.{judges_all}
use Rattle.fb_expect.proofs.judging.judge.Goals as goal

pub returns-clause-judged : goal.returns-clause-judged
returns-clause-judged g c =
    let input = g.R.Read.remaining c.args.input.now in
    let value = c.as_slice.ensures.value in
    judges_all c.args.cut input c.as_slice.result.now c.args.rules.now c.in_ok-number.number c.in_ok-number.end c.in_ok-conclude.field-0.items
    (subst (λ (ws : List Watcher). IsFollowed c.args.cut input ws c.in_ok-number.number c.in_ok-number.end) (sym value) c.in_ok-number.ensures.followed)
    (ap rules_of value ∙ c.in_ok-number.ensures.rules ∙ c.in_ok-watchers.ensures.rules) c.in_ok-conclude.ensures.judged

pub returns-clause-counted : goal.returns-clause-counted
returns-clause-counted g c =
    c.in_ok-conclude.ensures.counted
    ∙ ap length (ap rules_of c.as_slice.ensures.value ∙ c.in_ok-number.ensures.rules ∙ c.in_ok-watchers.ensures.rules)
