-- Rows that begin with the digits of small numbers.
use Rattle.fb_types.proofs.Common.{◌≡◌, ℕ, ◌+◌, ◌/◌, ◌%◌, ◌<◌, ◌≤◌, List, [], ◌∷◌, ◌++◌, length, replicate, set, get_or, decimal, ap, sym, subst, ◌∙◌, arith, length-set, get_or-set_other, get_or-set_same, inl, inr, cases_eq, decimal_digit}
use Rattle.std.proofs.lemmas.List.{get_or-replicate, length-replicate}
use Rattle.fb_trace.specs.DigitRows.{AreRows, IsRowOf}
use Rattle.fb_trace.specs.declared.digit_rows.DigitRow.{DigitRow}
use Rattle.fb_trace.proofs.lemmas.digits.Digits.{last_digit, last_digits}

-- ---- The digits of a number below 1,000

pub one_digit : (n : ℕ) → n < 10 → (48 + n % 10) ∷ [] ≡ decimal n
one_digit n low = let same : n % 10 ≡ n = omega arith in ap (λ d. (48 + d) ∷ []) same ∙ sym (decimal_digit n low)

pub two_digits : (n : ℕ) → 10 ≤ n → n < 100 → (48 + n / 10 % 10) ∷ (48 + n % 10) ∷ [] ≡ decimal n
two_digits n high low =
    let same : n / 10 % 10 ≡ n / 10 = omega arith in
    sym
    (last_digit n high (omega arith)
    ∙ ap (λ l. l ++ decimal (n % 10)) (decimal_digit (n / 10) (omega arith))
    ∙ ap (λ l. (48 + n / 10) ∷ l) (decimal_digit (n % 10) (omega arith))
    ∙ ap (λ d. (48 + d) ∷ (48 + n % 10) ∷ []) (sym same))

pub three_digits : (n : ℕ) → 100 ≤ n → n < 1000 → (48 + n / 100) ∷ (48 + n / 10 % 10) ∷ (48 + n % 10) ∷ [] ≡ decimal n
three_digits n high low =
    sym
    (last_digits n high (omega arith)
    ∙ ap (λ l. l ++ (decimal (n / 10 % 10) ++ decimal (n % 10))) (decimal_digit (n / 100) (omega arith))
    ∙ ap (λ l. (48 + n / 100) ∷ (l ++ decimal (n % 10))) (decimal_digit (n / 10 % 10) (omega arith))
    ∙ ap (λ l. (48 + n / 100) ∷ (48 + n / 10 % 10) ∷ l) (decimal_digit (n % 10) (omega arith)))

-- ---- The rows

-- none is made
pub rows_none : (m : ℕ) (r : DigitRow) → r.width ≡ 0 → AreRows (replicate m r)
rows_none m r none n d within =
    let count = length-replicate m r in
    subst (λ (x : DigitRow). IsRowOf n x) (sym (get_or-replicate m n r d (omega (arith, count, within)))) (record {
      within = omega (arith, none);
      digits = λ some. absurd (omega (arith, none, some));
    })

-- one is made
pub rows_made : (rows : List DigitRow) (i : ℕ) (r : DigitRow) → AreRows rows → i < length rows → IsRowOf i r → AreRows (set rows i r)
rows_made rows i r are inside is n d within =
    elim (cases_eq n i) [
      | inl same ↦ subst (λ (k : ℕ). IsRowOf k (get_or (set rows i r) k d)) (sym same) (subst (λ (x : DigitRow). IsRowOf i x) (sym (get_or-set_same rows i r d inside)) is)
      | inr other ↦ let count = length-set rows i r in subst (λ (x : DigitRow). IsRowOf n x) (sym (get_or-set_other rows i n r d other)) (are n d (omega (arith, count, within)))
    ]
