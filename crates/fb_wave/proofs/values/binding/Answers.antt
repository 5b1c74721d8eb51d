use Rattle.std.proofs.Common.{ℕ, List, ◌++◌, ap, ◌∙◌}
use Rattle.fb_wave.proofs.lemmas.Valued.{unsigned, unended, unvalued}
use Rattle.fb_wave.proofs.values.binding.Goals as goal

pub returns-in_err-text-3 : goal.returns-in_err-text-3
returns-in_err-text-3 c =
    rw c.from_residual-in_err-text-3.ensures
    (unsigned c.args.variable.now.name c.args.variable.now.ty c.args.text.now c.in_ok-text.text.now c.in_ok-text-2.text.now c.in_ok-text.ensures
    (c.in_ok-text-2.ensures ∙ ap (λ (l : List ℕ). l ++ c.in_ok-text-2.text.now) c.as_bytes.ensures) c.in_err-text-3.ensures)

pub returns-in_err-parts : goal.returns-in_err-parts
returns-in_err-parts c =
    rw c.from_residual-in_err-parts.ensures
    (unended c.args.variable.now.name c.args.variable.now.ty c.args.text.now c.in_ok-text.text.now c.in_ok-text-2.text.now c.in_ok-text-3.text.now c.in_ok-text.ensures
    (c.in_ok-text-2.ensures ∙ ap (λ (l : List ℕ). l ++ c.in_ok-text-2.text.now) c.as_bytes.ensures) c.in_ok-text-3.ensures c.in_err-parts.ensures)

pub returns-in_err-value_of : goal.returns-in_err-value_of
returns-in_err-value_of c =
    rw c.from_residual-in_err-value_of.ensures
    (unvalued c.args.variable.now.name c.args.variable.now.ty c.args.text.now c.in_ok-text.text.now c.in_ok-text-2.text.now c.in_ok-text-3.text.now c.in_ok-parts.parts.0.now c.in_ok-parts.parts.1.now c.in_ok-text.ensures
    (c.in_ok-text-2.ensures ∙ ap (λ (l : List ℕ). l ++ c.in_ok-text-2.text.now) c.as_bytes.ensures) c.in_ok-text-3.ensures c.in_ok-parts.ensures c.in_err-value_of.ensures)
