use Rattle.std.proofs.Common.{◌≡◌, ◌++◌, drop}
use Rattle.std.specs.List.{flat_map}
use Rattle.fb_draw.specs.Charts as spec
use Rattle.fb_draw.proofs.chart.put_transitions.Given as goal

-- with what the rest adds, all is there
abbrev pub invariant-loop-transition : goal.invariant-loop-transition
invariant-loop-transition l = l.text.items ++ flat_map spec.transition_edge (drop l.transition-index l.transitions) ≡ l.fn.text.items ++ flat_map spec.transition_edge l.transitions
