use Rattle.fb_types.proofs.Common.{◌≡◌, ℤ, pos, negsuc, true, decimal, refl, sym, ap, ◌∙◌, rules, to_z-of_z, false≢true, value_text}
use Rattle.std.proofs.Common.{nat_abs}
use Rattle.std.specs.Int.Signed.{le_z}
use mir.Syntax.{w128}
use mir.Val.{SFits}
use Rattle.fb_types.specs.declared.value.Value.TheVariants as value
use Rattle.fb_trace.proofs.start.small_number.Goals as goal

unsigned : (z : ℤ) → le_z (pos 0) z ≡ true → value_text (value.Whole z) ≡ decimal (nat_abs z)
unsigned (pos n) least = refl
unsigned (negsuc n) least = absurd (false≢true least)

pub returns-then-number-clause-text : goal.returns-then-number-clause-text
returns-then-number-clause-text c =
    let range : SFits w128 c.in-Whole.number = search rules in
    ap value_text (c.in-Whole.is ∙ ap (λ (z : ℤ). value.Whole z) (sym (to_z-of_z range))) ∙ unsigned _ c.if-number-ge0.true
