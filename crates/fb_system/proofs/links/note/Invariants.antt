use Rattle.std.proofs.Common.{◌≡◌, ℕ, ◌+◌, ◌-◌, length}
use Rattle.fb_system.specs.Linking.{way_between}
use Rattle.fb_system.proofs.links.note.Given as goal

abbrev pub invariant-loop-alloc : goal.invariant-loop-alloc
invariant-loop-alloc l = (f t : ℕ) → way_between l.ways.items f t ≡ way_between l.initial.ways.items f t

abbrev pub decreases-loop-alloc : goal.decreases-loop-alloc
decreases-loop-alloc l = (l.ends.from + 1) - length l.ways.items
