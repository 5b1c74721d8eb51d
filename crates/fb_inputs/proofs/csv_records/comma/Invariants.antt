use Rattle.fb_inputs.proofs.lemmas.Common.{◌≡◌, ◌≤◌, count_below, is_quote}
use Rattle.fb_inputs.specs.Records.{IsInRecord, is_comma}
use Rattle.fb_inputs.proofs.csv_records.comma.Given as goal

abbrev pub invariant-loop-at : goal.invariant-loop-at
invariant-loop-at l = record {
  quotes : l.quotes ≡ count_below (is_quote l.rest) l.at;
  before : l.before ≡ count_below (is_comma l.rest) l.at;
  inside : IsInRecord l.rest l.at;
  quotes_fit : l.quotes ≤ l.at;
  before_fits : l.before ≤ l.at;
  few : l.before ≤ l.index;
}
