use Rattle.fb_lint.proofs.lemmas.Common.{◌≡◌, ◌++◌, drop, flat_map, names_are}
use Rattle.fb_lint.specs.Reads as spec
use Rattle.fb_lint.proofs.uses.assigned.Given as goal

-- with what the rest adds, all is there
abbrev pub invariant-loop-algorithm : goal.invariant-loop-algorithm
invariant-loop-algorithm l = names_are l.names.items ++ flat_map spec.assigned_in (drop l.algorithm-index l.algorithms) ≡ flat_map spec.assigned_in l.algorithms
