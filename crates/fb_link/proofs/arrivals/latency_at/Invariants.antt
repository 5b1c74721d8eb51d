use Rattle.fb_types.proofs.Common.{◌≡◌, take, latency_at}
use Rattle.fb_link.proofs.arrivals.latency_at.Given as goal

abbrev pub invariant-loop-entry : goal.invariant-loop-entry
invariant-loop-entry l = l.ticks ≡ latency_at (take l.entry-index l.entry-items) l.sent_tick
