use Rattle.std.proofs.Common.{ℕ, ◌∙◌, ap, string_bytes}
use Rattle.fb_lint.specs.Lines.{line_text}
use Rattle.fb_lint.proofs.lines.line_of.Goals as goal

pub returns : goal.returns
returns c = record {
  words = string_bytes c.in_ok-words.words;
  is = c.in_ok-format.ensures.ok ∙ ap (λ (n : ℕ). line_text n (string_bytes c.in_ok-words.words)) c.number-number.ensures;
}
