use Rattle.fb_check.proofs.lemmas.Common.{◌≡◌, ◌++◌, drop, unknown_in_transition, each_at, each_from}
use Rattle.fb_check.proofs.types.basics.push_in_transitions.Given as goal

abbrev pub invariant-loop-transition : goal.invariant-loop-transition
invariant-loop-transition l =
    l.found.items ++ each_from (unknown_in_transition l.scope l.block) l.transition (drop l.transition l.transitions) ≡ l.fn.found.items ++ each_at (unknown_in_transition l.scope l.block) l.transitions
