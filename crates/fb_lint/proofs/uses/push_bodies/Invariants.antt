use Rattle.fb_lint.proofs.lemmas.Common.{◌≡◌, ◌++◌, drop, flat_map, meant_all}
use Rattle.fb_lint.specs.Reads as spec
use Rattle.fb_lint.proofs.uses.push_bodies.Given as goal

-- with what the rest adds, all is there
abbrev pub invariant-loop-algorithm : goal.invariant-loop-algorithm
invariant-loop-algorithm l = meant_all l.mentions.items ++ flat_map spec.mentions_of_algorithm (drop l.algorithm-index l.algorithms) ≡ meant_all l.fn.mentions.items ++ flat_map spec.mentions_of_algorithm l.algorithms
