use Rattle.fb_system.specs.Tables.{AreOfBlocksUpTo}
use Rattle.fb_system.proofs.interfaces.of_blocks.Given as goal

abbrev pub invariant-loop-index : goal.invariant-loop-index
invariant-loop-index l = AreOfBlocksUpTo l.index l.blocks l.all
