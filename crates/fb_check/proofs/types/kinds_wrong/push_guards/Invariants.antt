use Rattle.fb_check.proofs.lemmas.Common.{◌≡◌, ◌++◌, drop, kind_wrong_guard, each_at, each_from}
use Rattle.fb_check.proofs.types.kinds_wrong.push_guards.Given as goal

abbrev pub invariant-loop-transition : goal.invariant-loop-transition
invariant-loop-transition l =
    l.found.items ++ each_from (kind_wrong_guard l.scope l.block) l.transition (drop l.transition l.transitions) ≡ l.fn.found.items ++ each_at (kind_wrong_guard l.scope l.block) l.transitions
