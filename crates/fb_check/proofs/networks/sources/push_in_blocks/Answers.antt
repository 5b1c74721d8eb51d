use Rattle.fb_check.proofs.lemmas.Common.{inside_of, two_sources_in}
use Rattle.fb_check_names.proofs.lemmas.Listing.{each_done, each_more}
use Rattle.fb_check.proofs.networks.sources.push_in_blocks.Goals as goal

pub loop-block-preserved : goal.loop-block-preserved
loop-block-preserved c =
    each_more (inside_of two_sources_in) c.args.blocks.now c.loop-block.block c.index-blocks-block.result c.loop-block.found.items c.push_inside.new.found.items _
    c.loop-block-test.true c.index-blocks-block.is c.in_ok-push_inside.ensures c.loop-block.invariant

pub returns : goal.returns
returns c = each_done (inside_of two_sources_in) c.args.blocks.now c.loop-block.block c.loop-block.found.items _ c.loop-block-test.false c.loop-block.invariant
