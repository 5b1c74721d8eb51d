use Rattle.std.proofs.Common.{take}
use Rattle.fb_check.specs.Directory.{AreEvents}
use Rattle.fb_check.proofs.directory_making.events_of.Given as goal

abbrev pub invariant-loop-index : goal.invariant-loop-index
invariant-loop-index l = AreEvents (take l.index l.events) l.indexes
