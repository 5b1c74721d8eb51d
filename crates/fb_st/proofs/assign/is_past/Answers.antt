use Rattle.fb_types.proofs.Common.{◌≡◌, ◌∙◌, ℤ, pos, Bool, true, false, ◌&&◌, ◌||◌, refl, sym, to_z-of_z, int_lt}
use Rattle.fb_st.proofs.assign.is_past.Goals as goal

same_order : (x y a b : ℤ) → a ≡ x → b ≡ y → int_lt a b ≡ int_lt x y
same_order x y a b p q = λ i. int_lt (p i) (q i)

downwards : (above below : Bool) → below ≡ ((above && false) || (below && true))
downwards true true = refl
downwards true false = refl
downwards false true = refl
downwards false false = refl

-- where the step is below 0, a value below the end has passed it
past_below : (above below up down : Bool) → up ≡ false → down ≡ true → below ≡ ((above && up) || (below && down))
past_below above below up down still falls = rw (still, falls) (downwards above below)

pub returns-then-step-lt0 : goal.returns-then-step-lt0
returns-then-step-lt0 c =
    let end : ℤ = c.args.end in
    let step : ℤ = c.args.step in
    let number : ℤ = c.args.number in
    same_order number end _ _ (to_z-of_z c.ranges.number) (to_z-of_z c.ranges.end)
    ∙ past_below (int_lt end number) (int_lt number end) (int_lt (pos 0) step) (int_lt step (pos 0))
    (sym (same_order (pos 0) step (pos 0) _ refl (to_z-of_z c.ranges.step)) ∙ c.if-step-gt0.false)
    (sym (same_order step (pos 0) _ (pos 0) (to_z-of_z c.ranges.step) refl) ∙ c.if-step-lt0.true)
