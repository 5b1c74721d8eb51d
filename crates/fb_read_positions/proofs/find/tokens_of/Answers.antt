use Rattle.fb_types.proofs.Common.{◌<◌, length, arith}
use Rattle.fb_read.specs.Whole.{most_bytes}
use Rattle.fb_read.proofs.lemmas.texts.WholeLaws.{read-short}
use Rattle.fb_read_positions.proofs.lemmas.OneReading.{refused_declares_nothing}
use Rattle.fb_read_positions.proofs.find.tokens_of.Goals as goal

pub returns-then-text-gt-MOST_BYTES-clause-none : goal.returns-then-text-gt-MOST_BYTES-clause-none
returns-then-text-gt-MOST_BYTES-clause-none c =
    let over : most_bytes < length c.args.text.now = omega arith in
    λ library declared. read-short c.args.text.now library declared over

pub returns-in-Err-Refused-clause-none : goal.returns-in-Err-Refused-clause-none
returns-in-Err-Refused-clause-none c =
    let r = c.in-Err-Refused._refusal in
    refused_declares_nothing r.fault c.args.text.now r.start r.end (rw c.in-Err-Refused.field-0-is at c.in-Err-Refused.ensures.fault)
