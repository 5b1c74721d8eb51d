-- The fields of a record of three.
use Rattle.fb_inputs.proofs.lemmas.Common.{◌≡◌, ℕ, suc, false, ◌==◌, cond, [], ◌∷◌, length, Some, None, refl, sym, ap, arith, Text, Row}
use Rattle.fb_types.proofs.Common.{eqb, nat_tests, same_Some}
use Rattle.csv.specs.Records.{field_at}
use Rattle.fb_inputs.specs.Lists.{◌>>=◌}
use Rattle.fb_inputs.specs.Stimuli.{three}

longer : (n : ℕ) → eqb (suc (suc (suc (suc n)))) 3 ≡ false
longer n = grind (arith, nat_tests)

pub three_fields : (z : Row) → three z ≡ cond (length z == 3) (field_at z 0 >>= λ a. field_at z 1 >>= λ b. field_at z 2 >>= λ c. Some (a, b, c)) None
unfolding three field_at
three_fields [] = refl
three_fields (a ∷ []) = refl
three_fields (a ∷ b ∷ []) = refl
three_fields (a ∷ b ∷ c ∷ []) = refl
three_fields (a ∷ b ∷ c ∷ d ∷ z) = rw (longer (length z)) refl

pub three_row : (z : Row) (t e v : Text) → Some (t, e, v) ≡ three z → z ≡ t ∷ e ∷ v ∷ []
unfolding three
three_row [] t e v h = absurd (cc)
three_row (a ∷ []) t e v h = absurd (cc)
three_row (a ∷ b ∷ []) t e v h = absurd (cc)
three_row (a ∷ b ∷ c ∷ []) t e v h =
    let at : (a, b, c) ≡ (t, e, v) = sym (same_Some (t, e, v) (a, b, c) h) in
    ap (λ (f : Text × Text × Text). f.0 ∷ f.1 ∷ f.2 ∷ []) at
three_row (a ∷ b ∷ c ∷ d ∷ z) t e v h = absurd (cc)
