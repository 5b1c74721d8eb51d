use Rattle.std.proofs.Common.{◌≡◌, ◌==◌, not, drop}
use Rattle.std.specs.List.{list_all}
use Rattle.fb_expect.proofs.applied.are_some.Given as goal

abbrev pub invariant-loop-count : goal.invariant-loop-count
invariant-loop-count l = list_all (λ n. not (n == 0)) l.counts ≡ list_all (λ n. not (n == 0)) (drop l.count-index l.counts)
