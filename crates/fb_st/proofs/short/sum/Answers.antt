use Rattle.fb_types.proofs.Common.{◌≡◌, ◌∙◌, ◌^◌, ℤ, Bool, true, ◌&&◌, Option, Some, None, IfSome, Ok, refl, ap, subst, to_z-of_z, arith, pos, neg_ℤ, int_le, int_lt, ◌+ℤ◌, ints}
use Rattle.std.specs.Option.{SomeIff}
use mir.Syntax.{w64}
use mir.Val.{SFits}
use Rattle.fb_types.specs.Values.{judged, within_signed}
use Rattle.fb_st.specs.Required.{wholes}
use Rattle.fb_st.proofs.short.sum.Goals as goal

both : (a b : Bool) → a ≡ true → b ≡ true → (a && b) ≡ true
both a b h g = ap (λ x. x && b) h ∙ g

least : (z : ℤ) → SFits w64 z → int_le (neg_ℤ (pos (2 ^ 127))) z ≡ true
least z fit = grind (arith, ints, fit)

most : (z : ℤ) → SFits w64 z → int_lt z (pos (2 ^ 127)) ≡ true
most z fit = grind (arith, ints, fit)

within : (z : ℤ) → SFits w64 z → within_signed 127 z ≡ true
within z fit = both (int_le (neg_ℤ (pos (2 ^ 127))) z) (int_lt z (pos (2 ^ 127))) (least z fit) (most z fit)

-- a sum that fits 64 bits is what the definition gives
sum_is : (x y a b : ℤ) → a ≡ x → b ≡ y → (o : Option ℤ) → SomeIff o (SFits w64 (a +ℤ b)) (a +ℤ b) → IfSome o (λ z. wholes (judged (x +ℤ y)) ≡ Ok z)
sum_is x y a b p q None h = tt
sum_is x y a b p q (Some z) h =
    let same : a +ℤ b ≡ x +ℤ y = λ i. p i +ℤ q i in
    let range : within_signed 127 (x +ℤ y) ≡ true = within (x +ℤ y) (subst (SFits w64) same h.0) in
    let is : z ≡ x +ℤ y = h.1 ∙ same in
    rw (range, is) refl

pub returns : goal.returns
returns c = sum_is c.args.x c.args.y _ _ (to_z-of_z c.ranges.x) (to_z-of_z c.ranges.y) c.checked_add.result c.checked_add.ensures
