use Rattle.fb_check.proofs.lemmas.Common.{◌≡◌, ◌++◌, ℕ, drop, map, Again}
use Rattle.fb_check.proofs.networks.mapping.push_again.Given as goal

abbrev pub invariant-loop-pair : goal.invariant-loop-pair
invariant-loop-pair l = l.found.items ++ map (λ (r : ℕ × ℕ). Again r) (drop l.pair-index l.pairs) ≡ l.fn.found.items ++ map (λ (r : ℕ × ℕ). Again r) l.pairs
