use Rattle.fb_lint.proofs.lemmas.Common.{◌≡◌, ◌++◌, drop, each_from}
use Rattle.fb_lint.specs.Statements as spec
use Rattle.fb_lint.proofs.statements.push_repeated_labels.Given as goal

-- with what is found in the rest, all is there
abbrev pub invariant-loop-algorithm : goal.invariant-loop-algorithm
invariant-loop-algorithm l =
    l.all.items ++ each_from (spec.repeated_of l.block) l.algorithm (drop l.algorithm l.algorithms) ≡ l.fn.all.items ++ each_from (spec.repeated_of l.block) 0 l.algorithms
