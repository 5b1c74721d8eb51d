use Rattle.fb_types.proofs.Common.{◌≡◌, ◌+◌, Some, slice_get, refl, sym, subst, ◌∙◌, arith, slice_get_read, slice_get_within}
use Rattle.fb_window.proofs.lemmas.phases.Passes.{IsLeastOf, least_some, least_idle}
use Rattle.fb_window.proofs.bounds.least_next.Goals as goal
use Rattle.fb_window.proofs.bounds.least_next.Goals.{in-Some, in_default}

pub loop-resource-preserved : goal.loop-resource-preserved
loop-resource-preserved c =
    let xs = c.args.resources.now in
    let i = c.loop-resource.resource-index in
    let at : slice_get xs i ≡ Some c.resource-item.result = slice_get_read xs _ i c.resource-item.result refl c.loop-resource-test.true c.resource-item.is in
    elim c.match-next.branch [
      | in-Some w ↦
          subst (IsLeastOf xs (i + 1) c.args.horizon) (sym (w.least-is ∙ w.min-least.ensures))
          (least_some xs i c.args.horizon c.loop-resource.least w.in-Some.tick c.resource-item.result at c.loop-resource.invariant w.in-Some.ensures.some)
      | in_default w ↦
          subst (IsLeastOf xs (i + 1) c.args.horizon) (sym w.least-is)
          (least_idle xs i c.args.horizon c.loop-resource.least c.resource-item.result at c.loop-resource.invariant w.in_default.ensures.none)
    ]

pub returns-clause-low : goal.returns-clause-low
returns-clause-low c = λ r x j s b.
    let h = slice_get_within c.args.resources.now r x s in
    c.loop-resource.invariant.low r x j (omega (arith, c.loop-resource-test.false)) s b
