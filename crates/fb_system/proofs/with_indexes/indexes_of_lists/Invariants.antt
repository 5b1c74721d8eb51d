use Rattle.fb_system.specs.IndexLists.{AreIndexesUpTo}
use Rattle.fb_system.proofs.with_indexes.indexes_of_lists.Given as goal

abbrev pub invariant-loop-event : goal.invariant-loop-event
invariant-loop-event l = AreIndexesUpTo l.event-index l.events l.variables l.all
