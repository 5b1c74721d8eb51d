use Rattle.fb_lint.proofs.lemmas.Common.{◌≡◌, ◌++◌, drop, each_from}
use Rattle.fb_lint.specs.Charts as spec
use Rattle.fb_lint.proofs.charts.push_final_states.Given as goal

-- with what is found in the rest, all is there
abbrev pub invariant-loop-state : goal.invariant-loop-state
invariant-loop-state l =
    l.all.items ++ each_from (spec.final_state l.block l.transitions) l.state (drop l.state l.states) ≡ l.fn.all.items ++ each_from (spec.final_state l.block l.transitions) 0 l.states
