use Rattle.std.proofs.Common.{◌≡◌, map}
use Rattle.fb_trace.specs.Fronts.{present}
use Rattle.fb_trace.proofs.merging.queues.Given as goal

abbrev pub invariant-loop-list : goal.invariant-loop-list
invariant-loop-list l = map (λ q. q.items) l.queues.items ≡ present (map (λ v. v.items) l.yielded)
