use Rattle.std.proofs.Common.{◌≡◌, ℕ, ◌<◌, get_or, false, nat_eq}
use Rattle.fb_expect.proofs.words.split_at_mark.Given as goal

abbrev pub invariant-loop-at : goal.invariant-loop-at
invariant-loop-at l = (k : ℕ) → k < l.at → nat_eq l.mark (get_or l.text k 0) ≡ false
