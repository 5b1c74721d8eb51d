use Rattle.std.proofs.Common.{◌≡◌, false, true, ◌∙◌, rules}
use Rattle.csv.specs.Reading.{strip_bom, with_flexible, with_names_headers}
use Rattle.fb_inputs.proofs.lemmas.stimuli.Records.{at_start}
use Rattle.fb_inputs.proofs.stimuli.records_of.Goals as goal

pub returns : goal.returns
returns c =
    let from = c.from_reader-reader.ensures in
    let built : c.flexible.result.now ≡ with_flexible (with_names_headers c.new.result false) true = search rules in
    at_start c.into_byte_records.result c.from_reader-reader.result (strip_bom c.args.bytes.now) c.into_byte_records.ensures.rdr c.into_byte_records.ensures.left
    (rw built at from.trim ∙ c.new.ensures.trim) (rw built at from.has_headers) from.headers (rw built at from.config ∙ c.new.ensures.config) from.source from.state (rw built at from.flexible)
