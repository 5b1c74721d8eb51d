use Rattle.fb_inputs.proofs.lemmas.Common.{◌≡◌, ◌≤◌, ◌<◌, ℕ, false, count_below, is_quote}
use Rattle.fb_inputs.specs.Records.{ends_field}
use Rattle.fb_inputs.proofs.csv_records.field_len.Given as goal

abbrev pub invariant-loop-at : goal.invariant-loop-at
invariant-loop-at l = record {
  quotes : l.quotes ≡ count_below (is_quote l.field) l.at;
  inside : (k : ℕ) → k < l.at → ends_field l.field k ≡ false;
  quotes_fit : l.quotes ≤ l.at;
}
