use Rattle.fb_types.proofs.Common.{ap, not, ◌∙◌, is_some, event_block_named}
use Rattle.fb_check_names.specs.TwiceLists.{event_block_at}
use Rattle.fb_check_names.specs.Twice.{is_own_name}
use Rattle.fb_check_names.specs.declared.twice.GivenTwice.TheVariants as given
use Rattle.fb_check_names.proofs.lemmas.Listing.{added_unless, each_done, each_more}
use Rattle.fb_check_names.proofs.lemmas.twice.Repeating.{no_more}
use Rattle.fb_check_names.proofs.spaces.push_event_blocks.Goals as goal

pub loop-block-preserved : goal.loop-block-preserved
loop-block-preserved c =
    each_more event_block_at c.args.blocks.now c.loop-block.block c.index-blocks-block.result c.loop-block.found.items c.push_unless.new.found.items _
    c.loop-block-test.true c.index-blocks-block.is (added_unless c.loop-block.found.items c.push_unless.new.found.items c.is_none-is_own_name.result (is_own_name c.index-blocks-block.result) (given.EventBlock c.loop-block.block)
    (no_more c.is_none-is_own_name.result (is_some c.kind_named.result) c.is_none-is_own_name.ensures
    ∙ ap not (ap is_some (c.kind_named.ensures ∙ ap event_block_named (c.as_bytes.ensures ∙ c.name.ensures))))
    c.in_ok-push_unless.ensures) c.loop-block.invariant

pub returns : goal.returns
returns c = each_done event_block_at c.args.blocks.now c.loop-block.block c.loop-block.found.items _ c.loop-block-test.false c.loop-block.invariant
