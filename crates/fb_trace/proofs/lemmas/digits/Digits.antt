-- The digits of a number, written from the last to the first.
use Rattle.fb_types.proofs.Common.{◌≡◌, ℕ, ◌+◌, ◌-◌, ◌/◌, ◌%◌, ◌^◌, ◌<◌, ◌≤◌, List, [], ◌∷◌, ◌++◌, length, drop, set, decimal, ap, ◌∙◌, arith, append_assoc, append-nil, length-append, length-drop, length-set, sym, take, inl, inr, decimal_digit, drop_all, take_all, take_at, cases_lt}
use Rattle.std.proofs.lemmas.Fmt.{decimal_step, decimal_step_wide, length-decimal-le_wide}
use Rattle.std.proofs.lemmas.List.{drop-set, take_more_set}

-- The digits from an index on, with those of the rest before them, are the digits of the number.
pub record Follow (number rest start : ℕ) (digits : List ℕ) : Type 0 where
  pub within : start ≤ 39
  pub sized : length digits ≡ 39
  pub text : decimal rest ++ drop start digits ≡ decimal number

some_digit : (n : ℕ) → n < 2 ^ 128 → 0 < length (decimal n)
some_digit n h =
    elim (cases_lt n 10) [
      | inl low ↦ rw (decimal_digit n low) (omega arith)
      | inr high ↦ rw (decimal_step_wide n high (omega arith), length-append) (omega arith)
    ]

pub Follow-none : (n : ℕ) (ds : List ℕ) → length ds ≡ 39 → Follow n n 39 ds
Follow-none n ds e = record { within = omega arith; sized = e; text = rw (drop_all 39 ds (omega arith), append-nil) }

pub Follow-room : (n r s : ℕ) (ds : List ℕ) → Follow n r s ds → n < 2 ^ 128 → r < 2 ^ 128 → 0 < s
Follow-room n r s ds w nf rf =
    let e = ap length w.text in
    omega (arith, e, w.within, w.sized, length-append (decimal r) (drop s ds), length-drop s ds, some_digit r rf, length-decimal-le_wide 39 n (omega arith) (omega arith) (omega arith))

-- the text with one more digit before it
front : (s d : ℕ) (ds : List ℕ) → 0 < s → s ≤ length ds → drop (s - 1) (set ds (s - 1) d) ≡ d ∷ drop s ds
front s d ds h k = let e : s - 1 + 1 ≡ s = omega arith in rw (drop-set ds (s - 1) d (omega arith), e)

pub Follow-more : (n r s : ℕ) (ds : List ℕ) → Follow n r s ds → n < 2 ^ 128 → r < 2 ^ 128 → 10 ≤ r → Follow n (r / 10) (s - 1) (set ds (s - 1) (48 + r % 10))
Follow-more n r s ds w nf rf high =
    let room = Follow-room n r s ds w nf rf in
    let within = w.within in
    let sized = w.sized in
    record {
      within = omega arith;
      sized = length-set ds (s - 1) _ ∙ w.sized;
      text = rw (front s (48 + r % 10) ds room (omega arith)) (rw (decimal_step_wide r high (omega arith), append_assoc) at w.text);
    }

pub Follow-all : (n r s : ℕ) (ds : List ℕ) → Follow n r s ds → n < 2 ^ 128 → r < 10 → drop (s - 1) (set ds (s - 1) (48 + r)) ≡ decimal n
Follow-all n r s ds w nf low =
    let room = Follow-room n r s ds w nf (omega arith) in
    let within = w.within in
    let sized = w.sized in
    rw (front s (48 + r) ds room (omega arith)) (rw (decimal_digit r low) at w.text)

-- a number by its last digit, and by its last two
pub last_digit : (n : ℕ) → 10 ≤ n → n < 2 ^ 64 → decimal n ≡ decimal (n / 10) ++ decimal (n % 10)
last_digit n h f = decimal_step n h f ∙ ap (λ d. decimal (n / 10) ++ d) (sym (decimal_digit (n % 10) (omega arith)))

pub last_digits : (n : ℕ) → 100 ≤ n → n < 2 ^ 64 → decimal n ≡ decimal (n / 100) ++ (decimal (n / 10 % 10) ++ decimal (n % 10))
last_digits n h f =
    let e : n / 10 / 10 ≡ n / 100 = omega arith in
    last_digit n (omega arith) f
    ∙ ap (λ d. d ++ decimal (n % 10)) (last_digit (n / 10) (omega arith) (omega arith) ∙ ap (λ m. decimal m ++ decimal (n / 10 % 10)) e)
    ∙ append_assoc (decimal (n / 100)) (decimal (n / 10 % 10)) (decimal (n % 10))

-- ---- Digits with a blank

pub few_digits : (n s : ℕ) (ds : List ℕ) → length ds ≡ 39 → drop s ds ≡ decimal n → n < 2 ^ 64 → 39 - s ≤ 20
few_digits n s ds sized text nf =
    omega (arith, sized, length-drop s ds, ap length text, length-decimal-le_wide 20 n (omega arith) (omega arith) (omega arith))

pub digits_moved : (s : ℕ) (ds : List ℕ) → length ds ≡ 39 → length (take (39 - s) (drop s ds)) ≡ 39 - s
digits_moved s ds sized = ap length (take_all (39 - s) (drop s ds) (omega (arith, sized, length-drop s ds))) ∙ omega (arith, sized, length-drop s ds)

pub with_blank : (n s : ℕ) (ds to row : List ℕ) → length ds ≡ 39 → drop s ds ≡ decimal n → to ≡ take (39 - s) (drop s ds) → 39 - s ≤ 20 → length row ≡ 24
    → take (39 - s + 1) (set (to ++ drop (39 - s) row) (39 - s) 32) ≡ decimal n ++ 32 ∷ []
with_blank n s ds to row sized text e few wide =
    let rest = drop (39 - s) row in
    let long : length to ≡ 39 - s = ap length e ∙ digits_moved s ds sized in
    take_more_set (to ++ rest) (39 - s) 32 (omega (arith, few, wide, long, length-append to rest, length-drop (39 - s) row))
    ∙ ap (λ l. l ++ 32 ∷ []) (take_at to rest (39 - s) long ∙ e ∙ take_all (39 - s) (drop s ds) (omega (arith, sized, length-drop s ds)) ∙ text)
