use Rattle.fb_types.proofs.Common.{List, subst}
use Rattle.fb_types.specs.declared.library.BlockType.{BlockType}
use Rattle.fb_system.specs.Tables.{AreOfBlocks}
use Rattle.fb_system.proofs.lemmas.types.BlockNames.{blocks_are}
use Rattle.fb_system.proofs.interfaces.interfaces_of.Goals as goal

pub of_blocks-requires : goal.of_blocks-requires
of_blocks-requires c =
    rw (c.as_slice.ensures, c.as_slice-2.ensures.value) (blocks_are c.args.library.now c.requires.0 c.args.catalog.now c.requires.1 c.requires.2)

pub returns : goal.returns
returns c = record {
  blocks = subst (λ (ts : List BlockType). AreOfBlocks ts c.in_ok-blocks.blocks) c.as_slice.ensures c.in_ok-blocks.ensures;
  event_blocks = c.in_ok-event_blocks.ensures;
}
