-- Numbers that are too large.
use Rattle.fb_types.proofs.Common.{◌≡◌, ℕ, ◌+◌, ◌*◌, ◌<◌, ◌≤◌, Bool, true, false, cond, eqb, [], ◌∷◌, length, get_or, drop, Option, None, refl, sym, ap, ◌∙◌, arith, fold, drop_more, lt-leb, eqb-true}
use Rattle.std.proofs.Math.Nat.{mul-le-mul_right}
use Rattle.fb_read.specs.Limits.{most}
use Rattle.fb_read.specs.Blank.{Text}
use Rattle.fb_read.specs.Numbers.{digit_of, with_digit, value_of, are_digits, number}

with_digit-grows : (base n b : ℕ) → 1 ≤ base → n ≤ with_digit base n b
with_digit-grows base n b some = go (eqb b 95)
  where
    go : (t : Bool) → n ≤ cond t n (base * n + digit_of b)
    go true = omega arith
    go false = omega (arith, mul-le-mul_right n some)

fold-grows : (base n : ℕ) (z : Text) → 1 ≤ base → n ≤ fold (with_digit base) n z
fold-grows base n [] some = omega arith
fold-grows base n (b ∷ z) some = omega (arith, with_digit-grows base n b some, fold-grows base (with_digit base n b) z some)

-- a byte that is a digit is not an underscore
digit_not_mark : (b : ℕ) → digit_of b < 16 → eqb b 95 ≡ false
digit_not_mark b lt = go (eqb b 95) refl
  where
    go : (t : Bool) → eqb b 95 ≡ t → t ≡ false
    go true e = let h : digit_of b ≡ 16 = ap digit_of (eqb-true b 95 e) in absurd (omega arith)
    go false e = refl

one_digit : (base n b : ℕ) (rest : Text) → digit_of b < 16 → fold (with_digit base) n (b ∷ rest) ≡ fold (with_digit base) (base * n + digit_of b) rest
one_digit base n b rest lt = ap (λ (t : Bool). fold (with_digit base) (cond t n (base * n + digit_of b)) rest) (digit_not_mark b lt)

too_large_value : (base : ℕ) (z : Text) (i n : ℕ) → 2 ≤ base → i < length z → digit_of (get_or z i 0) < 16 → fold (with_digit base) n (drop i z) ≡ value_of base z
    → most < base * n + digit_of (get_or z i 0) → most < value_of base z
too_large_value base z i n some lt digit so_far over =
    let d = digit_of (get_or z i 0) in
    let turn : value_of base z ≡ fold (with_digit base) (base * n + d) (drop (i + 1) z) = sym so_far ∙ ap (fold (with_digit base) n) (drop_more z i 0 lt) ∙ one_digit base n (get_or z i 0) (drop (i + 1) z) digit in
    let grows : base * n + d ≤ fold (with_digit base) (base * n + d) (drop (i + 1) z) = fold-grows base (base * n + d) (drop (i + 1) z) (omega arith) in
    omega arith

abbrev none : Option ℕ
none = None

pub too_large : (base : ℕ) (z : Text) (i n : ℕ) → 2 ≤ base → i < length z → digit_of (get_or z i 0) < 16 → fold (with_digit base) n (drop i z) ≡ value_of base z
    → most < base * n + digit_of (get_or z i 0) → None ≡ number base z
unfolding number
too_large base z i n some lt digit so_far over =
    rw (lt-leb (value_of base z) most (too_large_value base z i n some lt digit so_far over)) (go (are_digits base true z))
  where
    go : (t : Bool) → none ≡ cond t none none
    go true = refl
    go false = refl
