use Rattle.std.proofs.Common.{◌≡◌, ◌≤◌, true, length, ap, sym, ◌∙◌, arith}
use Rattle.std.specs.Prelude.{◌<◌, nat_le, is_some}
use Rattle.std.proofs.lemmas.Bool.{le-leb, true≢false}
use Rattle.toml.specs.Errors.{IsMemory}
use Rattle.toml.specs.View.{table_view}
use Rattle.fb_expect.specs.Reading.{most_bytes}
use Rattle.fb_expect.proofs.lemmas.documents.Outcomes.{is_document, is_no_document}
use Rattle.fb_expect.proofs.lemmas.documents.Locating.{bytes-refused, document-located, document-refused, located, over-most}
use Rattle.fb_expect.proofs.location.rules_location.Goals as goal

pub returns-then-bytes-gt-MOST_BYTES-clause-exact : goal.returns-then-bytes-gt-MOST_BYTES-clause-exact
returns-then-bytes-gt-MOST_BYTES-clause-exact c =
    let over : most_bytes < length c.args.bytes.now = omega arith in
    bytes-refused c.args.bytes.now (over-most (length c.args.bytes.now) most_bytes over)

pub returns-in-Ok-clause-location : goal.returns-in-Ok-clause-location
returns-in-Ok-clause-location c =
    let keys = table_view c.in-Ok.keys in
    located c.args.bytes.now keys c.document_location.result (is_document c.args.bytes.now keys c.in-Ok.ensures.ok.0 c.in-Ok.ensures.ok.1) c.document_location.ensures.fault

pub returns-in-Ok-clause-exact : goal.returns-in-Ok-clause-exact
returns-in-Ok-clause-exact c =
    let keys = table_view c.in-Ok.keys in
    let within : length c.args.bytes.now ≤ most_bytes = omega arith in
    let short : nat_le (length c.args.bytes.now) most_bytes ≡ true = le-leb (length c.args.bytes.now) most_bytes within in
    document-located c.args.bytes.now keys c.document_location.result short (is_document c.args.bytes.now keys c.in-Ok.ensures.ok.0 c.in-Ok.ensures.ok.1) c.document_location.ensures.exact

pub returns-in-Some-clause-location : goal.returns-in-Some-clause-location
returns-in-Some-clause-location c =
    let enough : ¬ (IsMemory c.in-Err.error) = λ m. true≢false (ap is_some (sym c.in-Some.is) ∙ c.span.ensures.none.1 m) in
    let (low, high) = c.in-Err.ensures.span in
    let start = c.in-Some.ensures.range.0 in
    (is_no_document c.args.bytes.now (λ u. c.in-Err.ensures.refused enough u), omega arith)

pub returns-in-Some-clause-exact : goal.returns-in-Some-clause-exact
returns-in-Some-clause-exact c =
    let enough : ¬ (IsMemory c.in-Err.error) = λ m. true≢false (ap is_some (sym c.in-Some.is) ∙ c.span.ensures.none.1 m) in
    let within : length c.args.bytes.now ≤ most_bytes = omega arith in
    let short : nat_le (length c.args.bytes.now) most_bytes ≡ true = le-leb (length c.args.bytes.now) most_bytes within in
    document-refused c.args.bytes.now short (is_no_document c.args.bytes.now (λ u. c.in-Err.ensures.refused enough u))
