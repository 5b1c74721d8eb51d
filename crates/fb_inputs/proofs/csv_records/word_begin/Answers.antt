use Rattle.fb_inputs.proofs.lemmas.Common.{refl, arith, count_below}
use Rattle.fb_inputs.specs.Records.{begins_word}
use Rattle.fb_inputs.proofs.lemmas.positions.Counting.{counts, fits, none_there, still_few}
use Rattle.fb_inputs.proofs.csv_records.word_begin.Goals as goal

pub loop-at-init : goal.loop-at-init
unfolding count_below
loop-at-init c = record { before = refl; before_fits = omega arith; few = omega arith }

pub loop-at-preserved : goal.loop-at-preserved
loop-at-preserved c = record {
  before = counts (begins_word c.args.said.now) c.loop-at.at c.loop-at.before _ _ c.loop-at.invariant.before c.begins_word-begins.ensures c.count_if-before.ensures;
  before_fits = fits c.loop-at.at c.loop-at.before _ _ c.count_if-before.ensures c.loop-at.invariant.before_fits;
  few = still_few c.args.index c.loop-at.before _ _ c.count_if-before.ensures c.loop-at.invariant.few c.else-begins.either;
}

pub returns : goal.returns
returns c = none_there c.args.said.now (begins_word c.args.said.now) c.args.index c.loop-at.before c.loop-at.at c.loop-at.invariant.before c.loop-at.invariant.few c.loop-at-test.false
