use Rattle.fb_check.proofs.lemmas.Common.{◌≡◌, List, length, refl, ap, ◌∙◌, arith, slice_get_read, BlockType, each_at, unknown_in_block}
use Rattle.fb_check_names.proofs.lemmas.Listing.{each_done_of, each_more}
use Rattle.fb_check.proofs.lemmas.types.BlockNumbers.{first_all, first_none, next_block, none_at_index, reached}
use Rattle.fb_check.proofs.types.blocks.blocks_of.Goals as goal

pub block_numbers-requires-clause-index : goal.block_numbers-requires-clause-index
block_numbers-requires-clause-index c =
    reached c.args.types.now.library.now _ _ c.index-blocks-block.result c.as_slice-blocks.ensures c.loop-block-test.true c.index-blocks-block.is

pub loop-block-init : goal.loop-block-init
loop-block-init c = (refl, λ h. first_none c.args.types.now.library.now c.new-all.result c.new-all.ensures)

pub loop-block-preserved : goal.loop-block-preserved
loop-block-preserved c =
    let lib = c.args.types.now.library.now in
    let bs = c.as_slice-blocks.result.now in
    let k = c.loop-block.block in
    let b = c.index-blocks-block.result in (
      each_more (unknown_in_block lib) bs k b c.loop-block.found.items c.block_numbers.new.found.items _ c.loop-block-test.true c.index-blocks-block.is
          c.in_ok-numbers.ensures.listed c.loop-block.invariant.0,
      λ h. next_block lib bs k b c.in_ok-numbers.numbers _ _ c.as_slice-blocks.ensures c.loop-block-test.true c.index-blocks-block.is
          (c.in_ok-numbers.ensures.numbers (none_at_index (unknown_in_block lib) bs k b (slice_get_read bs (length bs) k b refl c.loop-block-test.true c.index-blocks-block.is) h))
          (c.loop-block.invariant.1 h) c.in_ok-push.ensures.ok,
    )

pub returns-clause-listed : goal.returns-clause-listed
returns-clause-listed c =
    each_done_of (unknown_in_block c.args.types.now.library.now) c.as_slice-blocks.result.now c.args.types.now.library.now.blocks c.loop-block.block c.args.found.now.items c.loop-block.found.items
    c.as_slice-blocks.ensures c.loop-block-test.false c.loop-block.invariant.0

pub returns-clause-numbers : goal.returns-clause-numbers
returns-clause-numbers c = λ h.
    let end : c.loop-block.block ≡ length c.as_slice-blocks.result.now = omega (arith, c.loop-block-test.false, c.loop-block.auto.block-end) in
    first_all _ _ _ (end ∙ ap (λ (bs : List BlockType). length bs) c.as_slice-blocks.ensures) (c.loop-block.invariant.1 (ap (each_at (unknown_in_block c.args.types.now.library.now)) c.as_slice-blocks.ensures ∙ h))
