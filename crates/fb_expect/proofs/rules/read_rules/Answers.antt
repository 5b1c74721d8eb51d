use Rattle.fb_types.proofs.Common.{◌≤◌, length, arith, err_from_is_err_and}
use Rattle.toml.specs.View.{table_view}
use Rattle.fb_expect.specs.Reading.{document, most_bytes, of_document}
use Rattle.fb_expect.specs.Refusals.{no_document, or_refuse}
use Rattle.fb_expect.proofs.lemmas.documents.Outcomes.{passed_on, read_rules_of, short_rules}
use Rattle.fb_expect.proofs.rules.read_rules.Goals as goal

pub returns-in_err-keys : goal.returns-in_err-keys
returns-in_err-keys c =
    let short : length c.args.bytes.now ≤ most_bytes = omega arith in
    let p = err_from_is_err_and c.from_residual.result c.from_residual.ensures.1 in
    rw (short_rules c.args.bytes.now short, p.1, p.2) (passed_on c.in_err-keys.field-0.0 (or_refuse no_document (document c.args.bytes.now)) of_document c.in_err-keys.ensures)

pub returns : goal.returns
returns c =
    let short : length c.args.bytes.now ≤ most_bytes = omega arith in
    rw (read_rules_of c.args.bytes.now (table_view c.in_ok-keys.keys) short c.in_ok-keys.ensures) c.of_document.ensures
