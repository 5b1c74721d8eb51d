use Rattle.fb_lint.proofs.lemmas.Common.{◌≡◌, ◌++◌, drop, each_from}
use Rattle.fb_lint.specs.Charts as spec
use Rattle.fb_lint.proofs.charts.push_shadowed_transitions.Given as goal

-- with what is found in the rest, all is there
abbrev pub invariant-loop-transition : goal.invariant-loop-transition
invariant-loop-transition l =
    l.all.items ++ each_from (spec.shadowed_transition l.block l.transitions) l.transition (drop l.transition l.transitions) ≡ l.fn.all.items ++ each_from (spec.shadowed_transition l.block l.transitions) 0 l.transitions
