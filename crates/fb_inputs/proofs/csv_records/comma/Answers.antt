use Rattle.fb_inputs.proofs.lemmas.Common.{refl, sym, ◌∙◌, arith, below_more, count_below, is_quote}
use Rattle.fb_inputs.specs.Records.{is_comma}
use Rattle.fb_inputs.proofs.lemmas.positions.Counting.{counts, fits, none_there, still_few}
use Rattle.fb_inputs.proofs.lemmas.positions.FieldSpans.{no_comma_past}
use Rattle.fb_inputs.proofs.csv_records.comma.Goals as goal

pub loop-at-init : goal.loop-at-init
unfolding count_below
loop-at-init c = record { quotes = refl; before = refl; inside = λ k lt. absurd (omega arith); quotes_fit = omega arith; before_fits = omega arith; few = omega arith }

pub loop-at-preserved : goal.loop-at-preserved
loop-at-preserved c = record {
  quotes = counts (is_quote c.args.rest.now) c.loop-at.at c.loop-at.quotes _ _ c.loop-at.invariant.quotes refl c.count_if-quotes.ensures;
  before = counts (is_comma c.args.rest.now) c.loop-at.at c.loop-at.before _ _ c.loop-at.invariant.before c.is_comma-parts.ensures c.count_if-before.ensures;
  inside = below_more _ _ c.loop-at.invariant.inside (sym c.ends_record.ensures ∙ c.if-ends_record.false);
  quotes_fit = fits c.loop-at.at c.loop-at.quotes _ _ c.count_if-quotes.ensures c.loop-at.invariant.quotes_fit;
  before_fits = fits c.loop-at.at c.loop-at.before _ _ c.count_if-before.ensures c.loop-at.invariant.before_fits;
  few = still_few c.args.index c.loop-at.before _ _ c.count_if-before.ensures c.loop-at.invariant.few c.else-parts.either;
}

pub returns-then-ends_record : goal.returns-then-ends_record
returns-then-ends_record c =
    no_comma_past c.args.rest.now c.args.index c.loop-at.before c.loop-at.at c.loop-at.invariant.before c.loop-at.invariant.few (sym c.ends_record.ensures ∙ c.if-ends_record.true)

pub returns : goal.returns
returns c = λ k found.
    none_there c.args.rest.now (is_comma c.args.rest.now) c.args.index c.loop-at.before c.loop-at.at c.loop-at.invariant.before c.loop-at.invariant.few c.loop-at-test.false k found.0
