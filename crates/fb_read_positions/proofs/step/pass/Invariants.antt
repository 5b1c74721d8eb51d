use Rattle.std.proofs.Common.{◌≡◌, ◌-◌}
use Rattle.fb_read_positions.specs.Walks.{pass}
use Rattle.fb_read_positions.proofs.step.pass.Given as goal

abbrev pub invariant-loop-turn : goal.invariant-loop-turn
invariant-loop-turn l = pass l.fn.steps l.fn.count l.fn.cursor ≡ pass l.fn.steps (l.fn.count - l._turn) l.cursor
