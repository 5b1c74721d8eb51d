use Rattle.fb_lint.proofs.lemmas.Common.{◌≡◌, ◌++◌, drop, each_from}
use Rattle.fb_lint.specs.Constants as spec
use Rattle.fb_lint.proofs.constants.push_constants_of_algorithms.Given as goal

-- with what is found in the rest, all is there
abbrev pub invariant-loop-algorithm : goal.invariant-loop-algorithm
invariant-loop-algorithm l =
    l.all.items ++ each_from (spec.constants_in l.basic l.block) l.algorithm (drop l.algorithm l.algorithms) ≡ l.fn.all.items ++ each_from (spec.constants_in l.basic l.block) 0 l.algorithms
