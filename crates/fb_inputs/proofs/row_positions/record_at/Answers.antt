use Rattle.fb_inputs.proofs.lemmas.Common.{List, refl, subst, sym, ◌≡◌, option_map, slice_get, rows_from, Row}
use Rattle.fb_types.proofs.Common.{IfOk}
use Rattle.csv.specs.Reading.{strip_bom}
use Rattle.csv.specs.Records.{fields_of}
use Rattle.fb_inputs.proofs.lemmas.stimuli.Rows.{start_read}
use Rattle.fb_inputs.proofs.row_positions.record_at.Goals as goal

pub nth_row-requires : goal.nth_row-requires
nth_row-requires c = (strip_bom c.args.text.now, c.records_of-rows.ensures.0)

pub returns : goal.returns
returns c =
    let z = strip_bom c.args.text.now in
    let all = start_read c.args.text.now c.records_of-rows.result.rdr.state (rows_from c.records_of-rows.result.rdr.state z) c.records_of-rows.ensures.1 refl in
    subst (λ (rows : List Row). IfOk c.nth_row.result (λ o. option_map fields_of o ≡ slice_get rows c.args.record_index)) (sym all) (c.nth_row.ensures z c.records_of-rows.ensures.0)
