use Rattle.fb_inputs.proofs.lemmas.Common.{◌≡◌, ◌<◌, ◌==◌, ℕ, false, at}
use Rattle.fb_inputs.proofs.csv_records.word_len.Given as goal

abbrev pub invariant-loop-at : goal.invariant-loop-at
invariant-loop-at l = (k : ℕ) → k < l.at → (at l.word k == 32) ≡ false
