use Rattle.fb_lint.proofs.lemmas.Common.{◌≡◌, ◌++◌, drop, each_from}
use Rattle.fb_lint.specs.Charts as spec
use Rattle.fb_lint.proofs.charts.push_unused_algorithms.Given as goal

-- with what is found in the rest, all is there
abbrev pub invariant-loop-algorithm : goal.invariant-loop-algorithm
invariant-loop-algorithm l =
    l.all.items ++ each_from (spec.unused_algorithm l.block l.states) l.algorithm (drop l.algorithm l.algorithms) ≡ l.fn.all.items ++ each_from (spec.unused_algorithm l.block l.states) 0 l.algorithms
