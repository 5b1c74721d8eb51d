use Rattle.fb_check_names.proofs.lemmas.Listing.{each_done_of, each_more}
use Rattle.fb_check.specs.networks.OutOfRange.{out_at_index}
use Rattle.fb_check.proofs.networks.ranges.push_in_blocks.Goals as goal

pub loop-block-preserved : goal.loop-block-preserved
loop-block-preserved c =
    each_more (out_at_index c.args.library.now c.args.blocks.now) c.as_slice-types.result.now c.loop-block.block c.index-types-block.result c.loop-block.found.items c.push_inside.new.found.items _
    c.loop-block-test.true c.index-types-block.is c.in_ok-push_inside.ensures c.loop-block.invariant

pub returns : goal.returns
returns c =
    each_done_of (out_at_index c.args.library.now c.args.blocks.now) c.as_slice-types.result.now c.args.library.now.blocks c.loop-block.block _ c.loop-block.found.items
    c.as_slice-types.ensures c.loop-block-test.false c.loop-block.invariant
