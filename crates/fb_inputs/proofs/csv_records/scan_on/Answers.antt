use Rattle.std.proofs.Common.{refl}
use Rattle.fb_inputs.specs.Records.{begins_record, is_quote}
use Rattle.fb_inputs.proofs.lemmas.positions.Counting.{counts, fits, none_there, still_few}
use Rattle.fb_inputs.proofs.csv_records.scan_on.Goals as goal

pub loop-at-init : goal.loop-at-init
loop-at-init c = record { quotes = c.requires.scanned.quotes; records = c.requires.scanned.records; few_quotes = c.requires.scanned.few_quotes; few_records = c.requires.scanned.few_records; before = c.requires.before }

pub loop-at-preserved : goal.loop-at-preserved
loop-at-preserved c = record {
  quotes = counts (is_quote c.args.text.now) c.loop-at.at c.loop-at.quotes _ _ c.loop-at.invariant.quotes refl c.count_if-quotes.ensures;
  records = counts (begins_record c.args.text.now) c.loop-at.at c.loop-at.records _ _ c.loop-at.invariant.records c.begins_record-begins.ensures c.count_if-records.ensures;
  few_quotes = fits c.loop-at.at c.loop-at.quotes _ _ c.count_if-quotes.ensures c.loop-at.invariant.few_quotes;
  few_records = fits c.loop-at.at c.loop-at.records _ _ c.count_if-records.ensures c.loop-at.invariant.few_records;
  before = still_few c.args.index c.loop-at.records _ _ c.count_if-records.ensures c.loop-at.invariant.before c.else-begins.either;
}

pub returns-clause-begins : goal.returns-clause-begins
returns-clause-begins c = none_there c.args.text.now (begins_record c.args.text.now) c.args.index c.loop-at.records c.loop-at.at c.loop-at.invariant.records c.loop-at.invariant.before c.loop-at-test.false
