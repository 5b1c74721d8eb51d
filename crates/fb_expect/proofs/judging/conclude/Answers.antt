use Rattle.fb_expect.proofs.lemmas.Common.{◌≡◌, ◌+◌, List, [], length, get_or, sym, ap, ◌∙◌, subst, arith, length-map, length_push, take_all, AreJudged, rules_of, Judged, Watcher}
use Rattle.fb_expect.specs.Judging.{Follows, IsJudged}
use Rattle.fb_expect.proofs.lemmas.rules.Following.{concluded-one}
use Rattle.fb_expect.proofs.judging.conclude.Goals as goal

pub loop-watcher-init : goal.loop-watcher-init
loop-watcher-init c = record {
  judged = λ es counted below all. subst (λ (js : List Judged). AreJudged es c.args.end [] js) (sym c.in_ok-all.ensures.items) tt;
  counted = ap length c.in_ok-all.ensures.items;
}

pub loop-watcher-preserved : goal.loop-watcher-preserved
loop-watcher-preserved c =
    let ws = c.args.watchers.now in
    let i = c.loop-watcher.watcher-index in
    let lt = c.loop-watcher-test.true in
    let is : c.watcher-item.result ≡ get_or ws i c.watcher-item.result = c.watcher-item.is in
    record {
      judged = λ es counted below all.
          (let here : Follows es c.watcher-item.result = subst (λ (w : Watcher). Follows es w) (sym is) (all i c.watcher-item.result lt) in
          concluded-one es c.args.end ws c.loop-watcher.all.items _ i c.watcher-item.result c.conclude_one.result lt c.in_ok-push.ensures.items
          (c.loop-watcher.invariant.judged es counted below all)
          (subst (λ (w : Watcher). IsJudged es c.args.end w.rule.now c.conclude_one.result) is (c.conclude_one.ensures es counted below here)));
      counted = ap length c.in_ok-push.ensures.items ∙ length_push c.loop-watcher.all.items c.conclude_one.result ∙ ap (λ n. n + 1) c.loop-watcher.invariant.counted;
    }

pub returns-clause-judged : goal.returns-clause-judged
returns-clause-judged c = λ es counted below all.
    subst (λ (ws : List Watcher). AreJudged es c.args.end (rules_of ws) c.loop-watcher.all.items)
    (take_all c.loop-watcher.watcher-index c.args.watchers.now c.loop-watcher-test.false) (c.loop-watcher.invariant.judged es counted below all)

pub returns-clause-counted : goal.returns-clause-counted
returns-clause-counted c =
    let ws = c.args.watchers.now in
    let end = c.loop-watcher-test.false in
    let most = c.loop-watcher.auto.watcher-index-end in
    omega (arith, c.loop-watcher.invariant.counted, length-map ws (λ (w : Watcher). w.rule.now))
