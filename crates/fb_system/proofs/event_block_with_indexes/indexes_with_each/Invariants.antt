use Rattle.fb_system.specs.IndexLists.{AreIndexesUpTo}
use Rattle.fb_system.proofs.event_block_with_indexes.indexes_with_each.Given as goal

abbrev pub invariant-loop-event : goal.invariant-loop-event
invariant-loop-event l = AreIndexesUpTo l.event-index l.events l.variables l.all
