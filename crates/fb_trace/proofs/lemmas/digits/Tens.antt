-- Two numbers of one ten: their digits, and a row that goes from the one to the other.
use Rattle.fb_types.proofs.Common.{◌≡◌, ℕ, ◌+◌, ◌-◌, ◌/◌, ◌%◌, ◌^◌, ◌<◌, ◌≤◌, List, [], ◌∷◌, ◌++◌, length, take, set, get_or, decimal, ap, sym, ◌∙◌, arith, append_assoc, length-append, length-set, inl, inr, decimal_digit, get_or-set_other, get_or-take, length-take-le, take-take, take_at, take_more, cases_lt}
use Rattle.std.proofs.lemmas.Fmt.{decimal_step_wide}
use Rattle.std.proofs.lemmas.List.{get_or_push, take_more_set}

-- All their digits but the last are the same.
pub record AreOfOneTen (n m : ℕ) : Type 0 where
  pub front : List ℕ
  pub one : decimal n ≡ front ++ (48 + n % 10) ∷ []
  pub other : decimal m ≡ front ++ (48 + m % 10) ∷ []

one_digit : (n : ℕ) → n < 10 → decimal n ≡ [] ++ (48 + n % 10) ∷ []
one_digit n low = let same : n % 10 ≡ n = omega arith in decimal_digit n low ∙ ap (λ d. (48 + d) ∷ []) (sym same)

pub of_one_ten : (n m : ℕ) → n / 10 ≡ m / 10 → m < 2 ^ 64 → AreOfOneTen n m
of_one_ten n m same mf =
    elim (cases_lt n 10) [
      | inl low ↦ record { front = []; one = one_digit n low; other = one_digit m (omega (arith, same, low)) }
      | inr high ↦ record {
        front = decimal (n / 10);
        one = decimal_step_wide n high (omega (arith, same, mf));
        other = decimal_step_wide m (omega (arith, same, high)) (omega (arith, mf)) ∙ ap (λ t. decimal t ++ (48 + m % 10) ∷ []) (sym same);
      }
    ]

-- how long the digits in front are
front_long : (n m w : ℕ) (row : List ℕ) (of : AreOfOneTen n m) → w ≤ length row → take w row ≡ decimal n ++ 32 ∷ [] → length of.front + 2 ≡ w
front_long n m w row of wide text =
    omega (arith, ap length text, ap length of.one, length-take-le w row wide, length-append (decimal n) (32 ∷ []), length-append of.front ((48 + n % 10) ∷ []))

pub two_at_least : (n m w : ℕ) (row : List ℕ) → AreOfOneTen n m → w ≤ length row → take w row ≡ decimal n ++ 32 ∷ [] → 2 ≤ w
two_at_least n m w row of wide text = let long = front_long n m w row of wide text in omega (arith, long)

-- the row of the other: the last digit is changed
pub last_changed :
    (n m w : ℕ) (row : List ℕ) → AreOfOneTen n m → w ≤ length row → take w row ≡ decimal n ++ 32 ∷ []
    → take w (set row (w - 2) (48 + m % 10)) ≡ decimal m ++ 32 ∷ []
last_changed n m w row of wide text =
    let d = 48 + n % 10 in
    let e = 48 + m % 10 in
    let long = front_long n m w row of wide text in
    let k = w - 2 in
    let here : length of.front ≡ k = omega (arith, long) in
    let again : k + 1 + 1 ≡ w = omega (arith, long) in
    let both = of.front ++ d ∷ [] in
    let whole : take w row ≡ both ++ 32 ∷ [] = text ∙ ap (λ l. l ++ 32 ∷ []) of.one in
    let before : take k row ≡ of.front =
    sym (take-take k w row (omega arith)) ∙ ap (take k) (whole ∙ append_assoc of.front (d ∷ []) (32 ∷ [])) ∙ take_at of.front (d ∷ 32 ∷ []) k here in
    let blank : get_or row (k + 1) 0 ≡ 32 =
    sym (get_or-take w row (k + 1) 0 (omega (arith, again))) ∙ ap (λ l. get_or l (k + 1) 0) whole
    ∙ get_or_push both 32 0 (k + 1) (length-append of.front (d ∷ []) ∙ omega (arith, here)) in
    let next = set row k e in
    let kept : get_or next (k + 1) 0 ≡ 32 = get_or-set_other row k (k + 1) e 0 (λ q. absurd (omega (arith, q))) ∙ blank in
    ap (λ j. take j next) (sym again)
    ∙ take_more next (k + 1) 0 (omega (arith, length-set row k e, wide, again))
    ∙ ap (λ l. l ++ get_or next (k + 1) 0 ∷ []) (take_more_set row k e (omega (arith, wide, again)) ∙ ap (λ l. l ++ e ∷ []) before ∙ sym of.other)
    ∙ ap (λ b. decimal m ++ b ∷ []) kept
