use Rattle.fb_types.proofs.Common.{map, ap, ◌∙◌, take_all}
use Rattle.fb_types.proofs.lemmas.lists.LoopSteps.{mapped_next}
use Rattle.fb_why.specs.InputPlaces.{row_of}
use Rattle.fb_why.proofs.input_place.stimuli_rows.Goals as goal

pub loop-position-preserved : goal.loop-position-preserved
loop-position-preserved c =
    mapped_next row_of c.args.positions.now c.loop-position.position-index _ _ _ _ c.loop-position-test.true c.row_of.ensures c.loop-position.invariant c.in_ok-push.ensures.items

pub returns : goal.returns
returns c = c.loop-position.invariant ∙ ap (map row_of) (take_all c.loop-position.position-index c.args.positions.now c.loop-position-test.false)
