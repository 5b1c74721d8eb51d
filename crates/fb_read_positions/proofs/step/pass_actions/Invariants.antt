use Rattle.std.proofs.Common.{◌≡◌, ◌-◌}
use Rattle.fb_read_positions.specs.Walks.{pass_actions}
use Rattle.fb_read_positions.proofs.step.pass_actions.Given as goal

abbrev pub invariant-loop-turn : goal.invariant-loop-turn
invariant-loop-turn l = pass_actions l.fn.count l.fn.cursor ≡ pass_actions (l.fn.count - l._turn) l.cursor
