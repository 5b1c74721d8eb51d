use Rattle.fb_inputs.proofs.lemmas.Common.{◌≡◌, ◌≤◌, count_below, is_quote}
use Rattle.fb_inputs.specs.Records.{begins_record}
use Rattle.fb_inputs.proofs.csv_records.scan_on.Given as goal

abbrev pub invariant-loop-at : goal.invariant-loop-at
invariant-loop-at l = record {
  quotes : l.quotes ≡ count_below (is_quote l.text) l.at;
  records : l.records ≡ count_below (begins_record l.text) l.at;
  few_quotes : l.quotes ≤ l.at;
  few_records : l.records ≤ l.at;
  before : l.records ≤ l.index;
}
