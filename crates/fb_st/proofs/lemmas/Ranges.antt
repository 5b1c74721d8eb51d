-- The numbers between the least and the greatest of 64 bits that a type holds are of the type.
use Rattle.fb_types.proofs.Common.{◌≡◌, ◌^◌, Bool, true, false, ◌&&◌, sym, ◌∙◌, ap, arith, ℤ, pos, int_le, int_lt, ◌-ℤ◌, true≢false, ints, fits}
use Rattle.fb_types.specs.declared.value.Ty.{Ty}
use Rattle.fb_types.specs.declared.value.Ty.TheVariants.{Sint, Int, Dint, Lint, Usint, Uint, Udint, Ulint, Time, Bool as Boolean}
use Rattle.fb_types.specs.declared.value.Value.TheVariants as value
use Rattle.fb_st.specs.Variables.{least_of, most_of}

both : (a b : Bool) → a ≡ true → b ≡ true → (a && b) ≡ true
both a b h g = ap (λ x. x && b) h ∙ g

below : (z b : ℤ) → int_le z (b -ℤ pos 1) ≡ true → int_lt z b ≡ true
below z b h = grind (arith, ints)

below_all : (z : ℤ) → int_le z (pos (2 ^ 63) -ℤ pos 1) ≡ true → int_lt z (pos (2 ^ 64)) ≡ true
below_all z h = grind (arith, ints)

none_between : (z : ℤ) → int_le (pos 1) z ≡ true → int_le z (pos 0) ≡ false
none_between z h = grind (arith, ints)

pub between : (t : Ty) (z : ℤ) → int_le (least_of t) z ≡ true → int_le z (most_of t) ≡ true → fits t (value.Whole z) ≡ true
between Sint z low high = both _ _ low (below z (pos (2 ^ 7)) high)
between Int z low high = both _ _ low (below z (pos (2 ^ 15)) high)
between Dint z low high = both _ _ low (below z (pos (2 ^ 31)) high)
between Lint z low high = both _ _ low (below z (pos (2 ^ 63)) high)
between Time z low high = both _ _ low (below z (pos (2 ^ 63)) high)
between Usint z low high = both _ _ low (below z (pos (2 ^ 8)) high)
between Uint z low high = both _ _ low (below z (pos (2 ^ 16)) high)
between Udint z low high = both _ _ low (below z (pos (2 ^ 32)) high)
between Ulint z low high = both _ _ low (below_all z high)
between Boolean z low high = absurd (true≢false (sym high ∙ none_between z low))
