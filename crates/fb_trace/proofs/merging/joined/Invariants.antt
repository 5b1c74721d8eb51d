use Rattle.std.proofs.Common.{◌≡◌}
use Rattle.fb_trace.specs.Merging.{flat}
use Rattle.fb_trace.proofs.merging.joined.Given as goal

abbrev pub invariant-loop-list : goal.invariant-loop-list
invariant-loop-list l = l.all.items ≡ flat l.yielded
