use Rattle.std.proofs.Common.{◌+◌, ℕ, refl, ap}
use Rattle.fb_inputs.proofs.lemmas.stimuli.TextParts.{from_there}
use Rattle.fb_inputs.proofs.near_stimuli.word_in.Goals as goal

pub returns-in_err-begin : goal.returns-in_err-begin
returns-in_err-begin c =
    let none = rw c.said-value.ensures at c.in_err-begin.ensures in
    rw c.from_residual.ensures (λ span word. none word.begin word.begins)

pub returns : goal.returns
returns c = record {
  begin = c.in_ok-begin.begin;
  begins = rw c.said-value.ensures at c.in_ok-begin.ensures;
  start = ap (λ (n : ℕ). c.args.field.start + n + c.in_ok-begin.begin) c.skipped.ensures.value;
  len = c.word_len.result;
  has_length = rw c.said-value.ensures at (rw (from_there c.said-value.result.now c.in_ok-begin.begin) at c.word_len.ensures);
  end = refl;
}
