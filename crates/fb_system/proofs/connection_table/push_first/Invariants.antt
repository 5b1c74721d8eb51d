use Rattle.std.proofs.Common.{◌≡◌, ℕ, ◌+◌, ◌-◌, length}
use Rattle.fb_system.specs.NetworkTables.{ends_in}
use Rattle.fb_system.proofs.connection_table.push_first.Given as goal

abbrev pub invariant-loop-alloc : goal.invariant-loop-alloc
invariant-loop-alloc l = (p : ℕ) → ends_in l.first.items p ≡ ends_in l.initial.first.items p

abbrev pub decreases-loop-alloc : goal.decreases-loop-alloc
decreases-loop-alloc l = (l.port + 1) - length l.first.items
