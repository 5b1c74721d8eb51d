use Rattle.fb_lint.proofs.lemmas.Common.{◌≡◌, ◌++◌, drop, each_from}
use Rattle.fb_lint.specs.Constants as spec
use Rattle.fb_lint.proofs.constants.push_dividing_guards.Given as goal

-- with what is found in the rest, all is there
abbrev pub invariant-loop-transition : goal.invariant-loop-transition
invariant-loop-transition l =
    l.all.items ++ each_from (spec.dividing_guard l.block) l.transition (drop l.transition l.transitions) ≡ l.fn.all.items ++ each_from (spec.dividing_guard l.block) 0 l.transitions
