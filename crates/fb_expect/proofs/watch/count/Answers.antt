use Rattle.fb_expect.proofs.lemmas.Common.{sym, subst, inl, inr, both_ways, Steps, Watch}
use Rattle.fb_expect.specs.declared.rule.Need.TheVariants as need
use Rattle.fb_expect.specs.declared.watch.Watch.TheVariants as watch
use Rattle.fb_expect.proofs.lemmas.rules.Stepping.{count-breaks, count-goes}
use Rattle.fb_expect.proofs.watch.count.Goals as goal
use Rattle.fb_expect.proofs.watch.count.Goals.{then-window-next, else-window-next}

pub returns-then-lacks : goal.returns-then-lacks
returns-then-lacks c =
    let b = c.args.bounds in
    subst (λ (w : Watch). Steps (need.Count b.least b.most b.every) (watch.Count c.args.window c.args.count) c.args.line c.args.hit w) (sym c.broken.ensures)
    (count-breaks b.least b.most b.every c.args.window c.args.count c.window_of-next.result c.args.line c.args.hit c.window_of-next.ensures (c.lacks.ensures.0 c.if-lacks.true))

pub returns : goal.returns
returns c =
    let b = c.args.bounds in
    count-goes b.least b.most b.every c.args.window c.args.count c.window_of-next.result c.if-window-next.before c.args.line c.args.hit c.count_on.result c.window_of-next.ensures
    (λ lacks. both_ways c.lacks.result c.if-lacks.false (c.lacks.ensures.1 lacks))
    (elim c.if-window-next.branch [
      | then-window-next w ↦ inl (w.if-window-next.true, w.before-is)
      | else-window-next w ↦ inr (w.if-window-next.false, w.before-is)
    ])
    c.count_on.ensures
