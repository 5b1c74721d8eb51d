use Rattle.std.proofs.Common.{◌+◌, refl, arith}
use Rattle.fb_inputs.proofs.lemmas.positions.FieldSpans.{no_field_in}
use Rattle.fb_inputs.proofs.lemmas.stimuli.TextParts.{from_there}
use Rattle.fb_inputs.proofs.near_stimuli.scanned_field.Goals as goal

pub returns-in_err-start : goal.returns-in_err-start
returns-in_err-start c = λ record_index begins.
    let none = rw (from_there c.args.text.now c.args.begin) at c.in_err-start.ensures in
    rw c.from_residual.ensures (no_field_in c.args.text.now record_index c.args.field c.args.begin begins none)

pub returns : goal.returns
returns c = λ record_index begins. record {
  begin = c.args.begin;
  record_begins = begins;
  inner = c.in_ok-start.field-0;
  field_begins = rw (from_there c.args.text.now c.args.begin) at c.in_ok-start.ensures.0;
  start = refl;
  len = c.field_len.result;
  has_length = rw (from_there c.args.text.now (c.args.begin + c.in_ok-start.field-0)) at c.field_len.ensures;
  end = refl;
  within = omega arith;
}
