use Rattle.fb_lint.specs.Warnings as spec
use Rattle.fb_lint.proofs.lemmas.WarningLists.{all_found, next_found}
use Rattle.fb_lint.proofs.lint.push_of_blocks.Goals as goal

pub loop-block-preserved : goal.loop-block-preserved
loop-block-preserved c =
    next_found (spec.of_block c.args.types.now.library.now) c.args.blocks.now c.loop-block.block c.index-blocks-block.result c.loop-block.all.items _ _ c.loop-block-test.true c.index-blocks-block.is
    c.in_ok-push_of_block.ensures c.loop-block.invariant

pub returns : goal.returns
returns c = all_found (spec.of_block c.args.types.now.library.now) c.args.blocks.now c.loop-block.block _ _ c.loop-block-test.false c.loop-block.invariant
