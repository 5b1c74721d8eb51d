use Rattle.fb_check.proofs.lemmas.Common.{◌≡◌, ◌++◌, drop, unknown_in_state, each_at, each_from}
use Rattle.fb_check.proofs.types.charts.push_in_states.Given as goal

abbrev pub invariant-loop-state : goal.invariant-loop-state
invariant-loop-state l =
    l.found.items ++ each_from (unknown_in_state l.scope l.block) l.state (drop l.state l.states) ≡ l.fn.found.items ++ each_at (unknown_in_state l.scope l.block) l.states
