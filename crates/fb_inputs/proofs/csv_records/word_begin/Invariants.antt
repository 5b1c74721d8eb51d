use Rattle.fb_inputs.proofs.lemmas.Common.{◌≡◌, ◌≤◌, count_below}
use Rattle.fb_inputs.specs.Records.{begins_word}
use Rattle.fb_inputs.proofs.csv_records.word_begin.Given as goal

abbrev pub invariant-loop-at : goal.invariant-loop-at
invariant-loop-at l = record {
  before : l.before ≡ count_below (begins_word l.said) l.at;
  before_fits : l.before ≤ l.at;
  few : l.before ≤ l.index;
}
