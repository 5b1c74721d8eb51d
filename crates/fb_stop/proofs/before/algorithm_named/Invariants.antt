use Rattle.fb_types.proofs.Common.{◌≡◌, drop, find, same_name}
use Rattle.fb_stop.proofs.before.algorithm_named.Given as goal

abbrev pub invariant-loop-algorithm : goal.invariant-loop-algorithm
invariant-loop-algorithm l = find (λ x. same_name x.name l.name) l.algorithms ≡ find (λ x. same_name x.name l.name) (drop l.algorithm-index l.algorithms)
