use Rattle.fb_expect.proofs.lemmas.Common.{sym, ap, ◌∙◌, subst, OnOk, event_of}
use Rattle.fb_expect.specs.Judging.{StateOn}
use Rattle.fb_expect.specs.declared.judging.State.{State}
use Rattle.fb_expect.specs.declared.judging.State.TheVariants.{Alone, Paired}
use Rattle.fb_expect.proofs.lemmas.rules.Following.{alone-on, paired-on-ok}
use Rattle.fb_expect.proofs.judging.state_on.Goals as goal

pub returns-in-Alone : goal.returns-in-Alone
returns-in-Alone c =
    subst (λ (s : State). StateOn c.args.rule.now c.args.number (event_of c.args.entry.now) s (Alone c.step.result)) (sym (c.in-Alone.is ∙ ap Alone (sym c.in-Alone.watch-is)))
    (alone-on c.args.rule.now c.args.number (event_of c.args.entry.now) c.args.hit _ c.step.result c.requires c.step.ensures)

pub returns-in-Paired : goal.returns-in-Paired
returns-in-Paired c =
    subst (λ (s : State). OnOk c.pairs_on.result (StateOn c.args.rule.now c.args.number (event_of c.args.entry.now) s (Paired c.pairs_on.new.pairs))) (sym c.in-Paired.is)
    (paired-on-ok c.args.rule.now c.args.number (event_of c.args.entry.now) c.in-Paired.pairs c.pairs_on.new.pairs c.pairs_on.result c.pairs_on.ensures)
