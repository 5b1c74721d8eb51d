use Rattle.std.proofs.Common.{◌≡◌, ℕ, ◌+◌, ◌-◌, length}
use Rattle.fb_system.specs.NetworkTables.{row_of}
use Rattle.fb_system.proofs.connection_table.push_at.Given as goal

abbrev pub invariant-loop-rows : goal.invariant-loop-rows
invariant-loop-rows l = (c : ℕ) → row_of l.rows.items c ≡ row_of l.initial.rows.items c

abbrev pub decreases-loop-rows : goal.decreases-loop-rows
decreases-loop-rows l = (l.component + 1) - length l.rows.items
