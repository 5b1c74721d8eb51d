use Rattle.fb_lint.proofs.lemmas.Common.{◌≡◌, ◌++◌, drop, flat_map, meant_all}
use Rattle.fb_lint.specs.Statements.{read_in}
use Rattle.fb_lint.proofs.statements.push_read_algorithms.Given as goal

-- with what the rest adds, all is there
abbrev pub invariant-loop-algorithm : goal.invariant-loop-algorithm
invariant-loop-algorithm l = meant_all l.reads.items ++ flat_map read_in (drop l.algorithm-index l.algorithms) ≡ meant_all l.fn.reads.items ++ flat_map read_in l.algorithms
