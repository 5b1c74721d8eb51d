use Rattle.std.proofs.Common.{◌≡◌, ℕ, ◌+◌, ◌-◌, length}
use Rattle.fb_system.specs.Linking.{way_to}
use Rattle.fb_system.proofs.links.note_to.Given as goal

abbrev pub invariant-loop-row : goal.invariant-loop-row
invariant-loop-row l = (t : ℕ) → way_to l.row t ≡ way_to l.initial.row t

abbrev pub decreases-loop-row : goal.decreases-loop-row
decreases-loop-row l = (l.to + 1) - length l.row
