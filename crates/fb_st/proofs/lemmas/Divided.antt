-- What a division leaves.
use Rattle.std.proofs.Common.{◌≡◌, ◌^◌, Bool, true, false, ◌&&◌, Ok, refl, sym, ◌∙◌, ap, arith}
use Rattle.std.specs.Prelude.{ℤ, pos, neg_ℤ, int_le, int_lt, int_div, int_rem, ◌+ℤ◌, ◌-ℤ◌, ◌*ℤ◌}
use Rattle.std.proofs.lemmas.Int.{ints, quot-rem}
use mir.Syntax.{w128}
use mir.Val.{SFits}
use Rattle.fb_types.specs.Values.{modulus, same_whole, within_signed}
use Rattle.fb_st.specs.Required.{wholes}

both : (a b : Bool) → a ≡ true → b ≡ true → (a && b) ≡ true
both a b h g = ap (λ x. x && b) h ∙ g

least : (z : ℤ) → SFits w128 z → int_le (neg_ℤ (pos (2 ^ 127))) z ≡ true
least z fit = grind (arith, ints, fit)

most : (z : ℤ) → SFits w128 z → int_lt z (pos (2 ^ 127)) ≡ true
most z fit = grind (arith, ints, fit)

within : (z : ℤ) → SFits w128 z → within_signed 127 z ≡ true
within z fit = both (int_le (neg_ℤ (pos (2 ^ 127))) z) (int_lt z (pos (2 ^ 127))) (least z fit) (most z fit)

not_zero : (y : ℤ) → ¬ (y ≡ pos 0) → same_whole y (pos 0) ≡ false
not_zero y apart = grind (arith, ints, apart)

taken_off : (a b c : ℤ) → b +ℤ c ≡ a → a -ℤ b ≡ c
taken_off a b c h = omega (arith, ints)

rest_is : (x y : ℤ) → x -ℤ (int_div x y *ℤ y) ≡ int_rem x y
rest_is x y = taken_off x (int_div x y *ℤ y) (int_rem x y) (quot-rem x y)

-- a remainder that is within the range is what MOD gives
pub modulus_is : (x y z : ℤ) → ¬ (y ≡ pos 0) → SFits w128 z → z ≡ int_rem x y → Ok z ≡ wholes (modulus x y)
modulus_is x y z apart fit is =
    let rest : x -ℤ (int_div x y *ℤ y) ≡ z = rest_is x y ∙ sym is in
    let none = not_zero y apart in
    let range = within z fit in
    rw (none, rest, range) refl
