use Rattle.fb_check.proofs.lemmas.Common.{◌≡◌, ◌++◌, drop, kinds_wrong_in_body, each_at, each_from}
use Rattle.fb_check.proofs.types.kinds_wrong.push_in_bodies.Given as goal

abbrev pub invariant-loop-algorithm : goal.invariant-loop-algorithm
invariant-loop-algorithm l =
    l.found.items ++ each_from (kinds_wrong_in_body l.scope l.block) l.algorithm (drop l.algorithm l.algorithms) ≡ l.fn.found.items ++ each_at (kinds_wrong_in_body l.scope l.block) l.algorithms
