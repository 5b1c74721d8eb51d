use Rattle.fb_types.proofs.Common.{List, refl, subst, take_all}
use Rattle.fb_types.specs.declared.library.BlockType.{BlockType}
use Rattle.fb_check_names.specs.GivenTwice.{AreBlocks}
use Rattle.fb_check_names.specs.TwiceLists.{twice_in_block}
use Rattle.fb_check_names.proofs.lemmas.Listing.{each_done, each_more}
use Rattle.fb_check_names.proofs.lemmas.numbers.BlockIndexes.{blocks_more, blocks_none}
use Rattle.fb_check_names.proofs.spaces.blocks_indexes.Goals as goal

pub loop-block-init : goal.loop-block-init
loop-block-init c = (blocks_none c.args.blocks.now c.new-all.result.items c.new-all.ensures.items, refl)

pub loop-block-preserved : goal.loop-block-preserved
loop-block-preserved c = (
  blocks_more c.args.blocks.now c.loop-block.block c.index-blocks-block.result _ _ c.in_ok-indexes.indexes c.loop-block-test.true c.index-blocks-block.is c.loop-block.invariant.0
      c.in_ok-indexes.ensures.indexes c.in_ok-push.ensures.items,
  each_more twice_in_block c.args.blocks.now c.loop-block.block c.index-blocks-block.result c.loop-block.found.items c.block_indexes.new.found.items _
      c.loop-block-test.true c.index-blocks-block.is c.in_ok-indexes.ensures.found c.loop-block.invariant.1,
)

pub returns-clause-found : goal.returns-clause-found
returns-clause-found c = each_done twice_in_block c.args.blocks.now c.loop-block.block c.loop-block.found.items _ c.loop-block-test.false c.loop-block.invariant.1

pub returns-clause-indexes : goal.returns-clause-indexes
returns-clause-indexes c =
    subst (λ (ts : List BlockType). AreBlocks ts c.loop-block.all.items) (take_all c.loop-block.block c.args.blocks.now c.loop-block-test.false) c.loop-block.invariant.0
