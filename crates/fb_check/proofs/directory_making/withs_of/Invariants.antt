use Rattle.fb_check.proofs.lemmas.Common.{take, AreWiths}
use Rattle.fb_check.proofs.directory_making.withs_of.Given as goal

abbrev pub invariant-loop-event : goal.invariant-loop-event
invariant-loop-event l = AreWiths (take l.event-index l.events) l.withs
