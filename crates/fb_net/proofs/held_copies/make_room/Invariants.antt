use Rattle.fb_net.proofs.lemmas.Common.{◌≡◌, ℕ, ◌+◌, ◌-◌, length}
use Rattle.fb_net.specs.HeldAt.{side_in}
use Rattle.fb_net.proofs.held_copies.make_room.Given as goal

abbrev pub invariant-loop-sides : goal.invariant-loop-sides
invariant-loop-sides l = (other : ℕ) → side_in l.sides other ≡ side_in l.initial.sides other

abbrev pub decreases-loop-sides : goal.decreases-loop-sides
decreases-loop-sides l = (l.side_index + 1) - length l.sides
