use Rattle.fb_types.proofs.Common.{take, variables_with}
use Rattle.fb_system.specs.IndexLists.{AreIndexes}
use Rattle.fb_system.proofs.event_block_with_indexes.indexes_with.Given as goal

-- the indexes are within all variables, and name those WITH the event among the variables so far
abbrev pub invariant-loop-index : goal.invariant-loop-index
invariant-loop-index l = AreIndexes l.variables (variables_with l.events (take l.index l.variables) l.event) l.indexes
