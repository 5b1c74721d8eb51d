use Rattle.fb_types.proofs.Common.{map, ◌∙◌, ap, take_all}
use Rattle.fb_types.proofs.lemmas.lists.LoopSteps.{mapped_next}
use Rattle.fb_lint.specs.Positions.{position_of}
use Rattle.fb_lint.proofs.positions.positions_of.Goals as goal

pub loop-warning-preserved : goal.loop-warning-preserved
loop-warning-preserved c = mapped_next position_of _ _ _ _ _ _ c.loop-warning-test.true c.position_of.ensures c.loop-warning.invariant c.in_ok-push.ensures.items

pub returns : goal.returns
returns c = c.loop-warning.invariant ∙ ap (map position_of) (take_all c.loop-warning.warning-index c.args.warnings.now c.loop-warning-test.false)
