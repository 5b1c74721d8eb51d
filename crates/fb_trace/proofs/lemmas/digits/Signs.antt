-- The text of a whole number, by its sign.
use Rattle.fb_types.proofs.Common.{◌≡◌, ◌++◌, true, false, ℤ, pos, negsuc, refl, sym, ◌∙◌, true≢false, arith, codes, decimal, unsigned_abs, le-ltb, value_text}
use Rattle.std.specs.Int.Signed.{lt_z}
use Rattle.fb_types.specs.declared.value.Value.TheVariants as value

pub value_text-negative : (z : ℤ) → lt_z z (pos 0) ≡ true → value_text (value.Whole z) ≡ codes "-" ++ decimal (unsigned_abs z)
value_text-negative (pos n) e = absurd (true≢false (sym e ∙ le-ltb n 0 (omega arith)))
value_text-negative (negsuc n) e = refl

pub value_text-other : (z : ℤ) → lt_z z (pos 0) ≡ false → value_text (value.Whole z) ≡ decimal (unsigned_abs z)
value_text-other (pos n) e = refl
value_text-other (negsuc n) e = absurd (true≢false e)
