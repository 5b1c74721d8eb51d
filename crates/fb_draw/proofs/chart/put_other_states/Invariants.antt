use Rattle.fb_types.proofs.Common.{◌≡◌, ◌++◌, drop, []}
use Rattle.std.specs.List.{flat_map}
use Rattle.fb_draw.specs.Charts as spec
use Rattle.fb_draw.proofs.chart.put_other_states.Given as goal

-- with what the rest adds, all is there
abbrev pub invariant-loop-state : goal.invariant-loop-state
invariant-loop-state l = l.text.items ++ flat_map (spec.state_node []) (drop l.state-index l.states) ≡ l.fn.text.items ++ flat_map (spec.state_node []) l.states
