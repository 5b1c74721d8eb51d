use Rattle.fb_system.proofs.lemmas.types.EventBlocks.{AreFirst}
use Rattle.fb_system.proofs.event_block_with_indexes.of_event_blocks.Given as goal

abbrev pub invariant-loop-kind : goal.invariant-loop-kind
invariant-loop-kind l = AreFirst l.kind-index l.all
