use Rattle.std.proofs.Common.{take}
use Rattle.fb_link.proofs.lemmas.EarliestIs.{IsEarliestOf}
use Rattle.fb_link.proofs.arrivals.earliest.Given as goal

abbrev pub invariant-loop-entry : goal.invariant-loop-entry
invariant-loop-entry l = IsEarliestOf (take l.entry-index l.entry-items) l.latency l.from l.least
