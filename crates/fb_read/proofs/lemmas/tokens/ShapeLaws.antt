-- The digits of a number are groups of digits, with single underscores between them.
use Rattle.fb_read.proofs.lemmas.Common.{◌≡◌, ℕ, ◌<◌, ◌≤◌, Bool, true, false, cond, eqb, List, [], ◌∷◌, ◌++◌, refl, sym, subst, ap, inl, inr, ◌∙◌, arith, ◌&&◌, cases_Bool, and_parts, eqb-true, Text, are_digits, digit_of}
use Rattle.fb_types.proofs.Common.{ltb, All, and_from, ltb-true, lt-ltb, All-nil, All-cons, All-head, All-tail}
use Rattle.fb_read.specs.Shapes.{AreAllDigits, AreGroups, NumbersExactly, underscored}

abbrev IsDigit : ℕ → ℕ → Type 0
IsDigit base b = digit_of b < base

-- what may follow a digit
record IsRest (base : ℕ) (z : Text) : Type 0 where
  digits : Text
  others : List Text
  all : All (IsDigit base) digits
  other_digits : All (AreAllDigits base) others
  text : z ≡ digits ++ underscored others

no_digits : (base : ℕ) (gs : List Text) → All (AreAllDigits base) gs → IsRest base (underscored gs)
no_digits base gs h = record { digits = []; others = gs; all = All-nil (IsDigit base); other_digits = h; text = refl }

-- no underscore may come first
first_read : (base b : ℕ) (z : Text) → are_digits base true (b ∷ z) ≡ (ltb (digit_of b) base && are_digits base false z)
first_read base b z = go (eqb b 95)
  where
    go : (t : Bool) → cond (t && false) (are_digits base true z) (ltb (digit_of b) base && are_digits base false z) ≡ (ltb (digit_of b) base && are_digits base false z)
    go true = refl
    go false = refl

-- ---- What is read

with_first : (base b : ℕ) (z : Text) → IsDigit base b → IsRest base z → AreGroups base (b ∷ z)
with_first base b z digit rest = record {
  first = b ∷ rest.digits;
  others = rest.others;
  first_digits = record { some = omega arith; digits = All-cons (IsDigit base) b rest.digits digit rest.all };
  other_digits = rest.other_digits;
  text = ap (λ (y : Text). b ∷ y) rest.text;
}

one_more : (base b : ℕ) (z : Text) → IsDigit base b → IsRest base z → IsRest base (b ∷ z)
one_more base b z digit rest = record {
  digits = b ∷ rest.digits;
  others = rest.others;
  all = All-cons (IsDigit base) b rest.digits digit rest.all;
  other_digits = rest.other_digits;
  text = ap (λ (y : Text). b ∷ y) rest.text;
}

next_group : (base b : ℕ) (z : Text) → b ≡ 95 → AreGroups base z → IsRest base (b ∷ z)
next_group base b z line groups = record {
  digits = [];
  others = groups.first ∷ groups.others;
  all = All-nil (IsDigit base);
  other_digits = All-cons (AreAllDigits base) groups.first groups.others groups.first_digits groups.other_digits;
  text = ap (λ (n : ℕ). n ∷ z) line ∙ ap (λ (y : Text). 95 ∷ y) groups.text;
}

record Read (base : ℕ) (z : Text) : Type 0 where
  groups : are_digits base true z ≡ true → AreGroups base z
  rest : are_digits base false z ≡ true → IsRest base z

read : (base : ℕ) (z : Text) → Read base z
read base [] = record { groups = λ h. absurd cc; rest = λ h. no_digits base [] (All-nil (AreAllDigits base)) }
read base (b ∷ z) = of (read base z)
  where
    digit_first : (x : (ltb (digit_of b) base && are_digits base false z) ≡ true) → IsDigit base b × (are_digits base false z ≡ true)
    digit_first x = let p = and_parts (ltb (digit_of b) base) (are_digits base false z) x in (ltb-true (digit_of b) base p.0, p.1)

    rest_of : Read base z → (t : Bool) → eqb b 95 ≡ t → cond (t && true) (are_digits base true z) (ltb (digit_of b) base && are_digits base false z) ≡ true → IsRest base (b ∷ z)
    rest_of again true e h = next_group base b z (eqb-true b 95 e) (again.groups h)
    rest_of again false e h = let p = digit_first h in one_more base b z p.0 (again.rest p.1)

    of : Read base z → Read base (b ∷ z)
    of again = record {
      groups = λ h. let p = digit_first (sym (first_read base b z) ∙ h) in with_first base b z p.0 (again.rest p.1);
      rest = λ h. rest_of again (eqb b 95) refl h;
    }

-- ---- What there is is read

not_line : (base b : ℕ) → base ≤ 16 → IsDigit base b → eqb b 95 ≡ false
not_line base b le digit = elim (cases_Bool (eqb b 95)) [
  | inl e ↦ let line = eqb-true b 95 e in let sixteen : digit_of b ≡ 16 = ap digit_of line in absurd (omega (arith, sixteen, digit))
  | inr e ↦ e
]

digits_read : (base : ℕ) (ds rest : Text) → base ≤ 16 → All (IsDigit base) ds → are_digits base false rest ≡ true → are_digits base false (ds ++ rest) ≡ true
digits_read base [] rest le all h = h
digits_read base (b ∷ ds) rest le all h =
    let digit = All-head (IsDigit base) b ds all in
    go (eqb b 95) (not_line base b le digit) (and_from (ltb (digit_of b) base) (are_digits base false (ds ++ rest)) (lt-ltb (digit_of b) base digit)
    (digits_read base ds rest le (All-tail (IsDigit base) b ds all) h))
  where
    go : (t : Bool) → t ≡ false → (ltb (digit_of b) base && are_digits base false (ds ++ rest)) ≡ true
        → cond (t && true) (are_digits base true (ds ++ rest)) (ltb (digit_of b) base && are_digits base false (ds ++ rest)) ≡ true
    go true e x = absurd cc
    go false e x = x

group_read : (base : ℕ) (g rest : Text) → base ≤ 16 → AreAllDigits base g → are_digits base false rest ≡ true → are_digits base true (g ++ rest) ≡ true
group_read base [] rest le digits h = absurd (omega (arith, digits.some))
group_read base (b ∷ ds) rest le digits h =
    let digit = All-head (IsDigit base) b ds digits.digits in
    first_read base b (ds ++ rest)
    ∙ and_from (ltb (digit_of b) base) (are_digits base false (ds ++ rest)) (lt-ltb (digit_of b) base digit) (digits_read base ds rest le (All-tail (IsDigit base) b ds digits.digits) h)

others_read : (base : ℕ) (gs : List Text) → base ≤ 16 → All (AreAllDigits base) gs → are_digits base false (underscored gs) ≡ true
others_read base [] le all = refl
others_read base (g ∷ gs) le all =
    group_read base g (underscored gs) le (All-head (AreAllDigits base) g gs all) (others_read base gs le (All-tail (AreAllDigits base) g gs all))

pub numbers-exactly : NumbersExactly
numbers-exactly base z le = (
  (read base z).groups,
  λ groups.
      subst (λ (y : Text). are_digits base true y ≡ true) (sym groups.text)
      (group_read base groups.first (underscored groups.others) le groups.first_digits (others_read base groups.others le groups.other_digits)),
)
