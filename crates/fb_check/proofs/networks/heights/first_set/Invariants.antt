use Rattle.fb_check.proofs.lemmas.Common.{◌≡◌, ◌<◌, ℕ, false}
use Rattle.fb_check.specs.networks.Heights.{mark_at}
use Rattle.fb_check.proofs.networks.heights.first_set.Given as goal

abbrev pub invariant-loop-block : goal.invariant-loop-block
invariant-loop-block l = (k : ℕ) → k < l.block → mark_at l.marks k ≡ false
