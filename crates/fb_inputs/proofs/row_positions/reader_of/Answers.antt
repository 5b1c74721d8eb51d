use Rattle.fb_inputs.proofs.lemmas.Common.{ℕ, List, refl, sym, ◌∙◌, ap, slice_get, rows_from, Row}
use Rattle.std.proofs.Common.{zero-add}
use Rattle.csv.specs.Reading.{default_config, records, strip_bom}
use Rattle.fb_inputs.proofs.lemmas.stimuli.Rows.{start_read}
use Rattle.fb_inputs.proofs.row_positions.reader_of.Goals as goal

pub returns-clause-reader : goal.returns-clause-reader
returns-clause-reader c =
    let z = strip_bom c.args.text.now in
    let all = start_read c.args.text.now c.records_of.result.rdr.state (rows_from c.records_of.result.rdr.state z) c.records_of.ensures.1 refl in
    record {
      left = z;
      here = c.records_of.ensures.0;
      others = λ k. ap (λ (rows : List Row). slice_get rows k) (sym all) ∙ ap (λ (n : ℕ). slice_get (records default_config z) n) (sym (zero-add k));
      last = refl;
    }
