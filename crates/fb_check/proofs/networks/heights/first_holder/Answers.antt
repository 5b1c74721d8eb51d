use Rattle.fb_check.proofs.lemmas.Common.{sym, ◌∙◌, HoldsNone}
use Rattle.fb_types.proofs.lemmas.lists.LoopSteps.{all_next, all_of_taken}
use Rattle.fb_check.proofs.lemmas.networks.SearchLoops.{at_element}
use Rattle.fb_check.proofs.networks.heights.first_holder.Goals as goal

pub returns-in-Some : goal.returns-in-Some
returns-in-Some c =
    let o = c.index-blocks-block.result in
    (o, at_element c.args.blocks.now c.loop-block.block o c.loop-block-test.true c.index-blocks-block.is, sym c.first_marked_component.ensures ∙ c.in-Some.is)

pub loop-block-preserved : goal.loop-block-preserved
loop-block-preserved c =
    all_next (HoldsNone c.args.marks.now) c.args.blocks.now c.loop-block.block c.index-blocks-block.result c.loop-block-test.true c.index-blocks-block.is c.loop-block.invariant
    (sym c.first_marked_component.ensures ∙ c.in_default.is)

pub returns : goal.returns
returns c = all_of_taken (HoldsNone c.args.marks.now) c.args.blocks.now c.loop-block.block c.loop-block-test.false c.loop-block.invariant
