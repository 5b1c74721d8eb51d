use Rattle.std.proofs.Common.{◌≡◌, ◌-◌, length}
use Rattle.fb_read_positions.specs.Walks.{to_name}
use Rattle.fb_read_positions.proofs.step.to_name.Given as goal

abbrev pub invariant-loop-turn : goal.invariant-loop-turn
invariant-loop-turn l = (to_name l.fn.cursor l.fn.index ≡ to_name l.cursor l.before) × (length l.cursor ≡ l._turn-end - l._turn)
