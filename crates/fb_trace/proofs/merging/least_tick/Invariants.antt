use Rattle.std.proofs.Common.{map, take}
use Rattle.fb_trace.specs.Fronts.{IsLeast}
use Rattle.fb_trace.proofs.merging.least_tick.Given as goal

abbrev pub invariant-loop-list : goal.invariant-loop-list
invariant-loop-list l = IsLeast (map (λ q. q.items) (take l.list-index l.lists)) l.least
