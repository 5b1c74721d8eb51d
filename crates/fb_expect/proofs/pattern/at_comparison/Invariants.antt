use Rattle.std.proofs.Common.{◌≡◌, ℕ, ◌<◌, get_or, false}
use Rattle.fb_expect.specs.Written.{is_sign}
use Rattle.fb_expect.proofs.pattern.at_comparison.Given as goal

abbrev pub invariant-loop-at : goal.invariant-loop-at
invariant-loop-at l = (k : ℕ) → k < l.at → is_sign (get_or l.word k 0) ≡ false
