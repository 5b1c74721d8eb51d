-- Numbers that are read digit by digit.
use Rattle.fb_types.proofs.Common.{◌≡◌, ℕ, ◌+◌, ◌-◌, ◌*◌, ◌/◌, ◌%◌, ◌^◌, ◌<◌, ◌≤◌, true, false, List, [], ◌∷◌, ◌++◌, length, take, drop, get_or, codes, decimal, refl, sym, ap, subst, ◌∙◌, arith, inl, inr, length-append, take-append-drop, append_assoc, not, All, MatchOption, Option, Some, None, cases_lt, and_from, or_from, not_from_false, ne_eqb, decimal_digit, drop_more, take_more, length-take-le, get_or_append_left, get_or-take, All-push, All-nil, list_all-append}
use Rattle.std.proofs.lemmas.Fmt.{decimal_step_wide, decimal_by_steps_wide}
use Rattle.fb_wave.proofs.lemmas.Cutting.{cut_once, word_once}
use Rattle.fb_wave.specs.Reading.{HasNoNumber, IsGrown, IsNoNumber, IsWide, number_text}
use Rattle.fb_wave.specs.Words.{is_end, is_word, IsCut}

-- ---- What the digits of a number are

-- the number that digits say after another
abbrev pub read_on : ℕ → List ℕ → ℕ
read_on v [] = v
read_on v (c ∷ cs) = read_on (v * 10 + (c - 48)) cs

read_on-append : (v : ℕ) (xs ys : List ℕ) → read_on v (xs ++ ys) ≡ read_on (read_on v xs) ys
read_on-append v [] ys = refl
read_on-append v (x ∷ xs) ys = read_on-append (v * 10 + (x - 48)) xs ys

read_on-grows : (v : ℕ) (xs : List ℕ) → v ≤ read_on v xs
read_on-grows v [] = omega arith
read_on-grows v (x ∷ xs) = let more = read_on-grows (v * 10 + (x - 48)) xs in omega (arith, more)

pub record IsDigit (c : ℕ) : Type 0 where
  pub low : 48 ≤ c
  pub high : c < 58

digit_is_no_end : (c : ℕ) → IsDigit c → is_end c ≡ false
digit_is_no_end c d = let low = d.low in or_from _ _ (ne_eqb c 32 (λ e. omega arith)) (ne_eqb c 10 (λ e. omega arith))

pub record AreDigitsOf (n : ℕ) (ds : List ℕ) : Type 0 where
  pub says : read_on 0 ds ≡ n
  pub each : All IsDigit ds
  pub word : is_word ds ≡ true
  pub some : 0 < length ds
  pub first : 0 < n → 48 < get_or ds 0 0

word_of_one : (c : ℕ) → IsDigit c → is_word (c ∷ []) ≡ true
word_of_one c d = and_from (not (is_end c)) true (not_from_false (is_end c) (digit_is_no_end c d)) refl

digits_one : (n : ℕ) → n < 10 → AreDigitsOf n ((48 + n) ∷ [])
digits_one n small =
    let digit : IsDigit (48 + n) = record { low = omega arith; high = omega arith } in
    let value : 0 * 10 + (48 + n - 48) ≡ n = omega arith in
    record {
      says = value;
      each = All-push IsDigit [] (48 + n) (All-nil IsDigit) digit;
      word = word_of_one (48 + n) digit;
      some = omega arith;
      first = λ h. omega arith;
    }

digits_more : (n : ℕ) (ds : List ℕ) → 10 ≤ n → AreDigitsOf (n / 10) ds → AreDigitsOf n (ds ++ ((48 + n % 10) ∷ []))
digits_more n ds large are =
    let c : ℕ = 48 + n % 10 in
    let digit : IsDigit c = record { low = omega arith; high = omega arith } in
    let some = are.some in
    let value : n / 10 * 10 + (48 + n % 10 - 48) ≡ n = omega arith in
    record {
      says = read_on-append 0 ds (c ∷ []) ∙ ap (λ (v : ℕ). v * 10 + (c - 48)) are.says ∙ value;
      each = All-push IsDigit ds c are.each digit;
      word = list_all-append (λ (b : ℕ). not (is_end b)) ds (c ∷ []) ∙ and_from (is_word ds) (is_word (c ∷ [])) are.word (word_of_one c digit);
      some = omega (arith, length-append ds (c ∷ []));
      first = λ h. subst (λ (x : ℕ). 48 < x) (sym (get_or_append_left ds (c ∷ []) 0 0 some)) (are.first (omega arith));
    }

pub digits_of : (n : ℕ) → n < 2 ^ 128 → AreDigitsOf n (decimal n)
digits_of n small = decimal_by_steps_wide AreDigitsOf digits_one digits_more n (omega arith)

pub decimal_once : (m n : ℕ) → m < 2 ^ 128 → n < 2 ^ 128 → decimal m ≡ decimal n → m ≡ n
decimal_once m n low high e = sym (digits_of m low).says ∙ ap (read_on 0) e ∙ (digits_of n high).says

-- ---- Reading

-- The digits before an index are those of the value, and there are none before the first index.
pub record Reads (value index : ℕ) (text : List ℕ) : Type 0 where
  pub fits : value < 2 ^ 128
  pub none : index ≡ 0 → value ≡ 0
  pub some : 0 < index → decimal value ≡ take index text

pub Reads-more :
    (v p c n : ℕ) (text : List ℕ) → Reads v p text → p < length text → c ≡ get_or text p c → IsGrown v c n → (0 < p → 0 < v)
    → Reads n (p + 1) text
Reads-more v p c n text r within at grown some =
    let small = grown.fits in
    let low = grown.low in
    let high = grown.high in
    let is = grown.is in
    let one : take (p + 1) text ≡ take p text ++ c ∷ [] = take_more text p c within ∙ ap (λ x. take p text ++ x ∷ []) (sym at) in
    let longer : decimal n ≡ take (p + 1) text =
    elim (cases_lt 0 p) as (λ _. decimal n ≡ take (p + 1) text) [
      | inl more ↦
          (let above : 0 < v = some more in
          let front : n / 10 ≡ v = omega arith in
          let last : 48 + n % 10 ≡ c = omega arith in
          decimal_step_wide n (omega arith) (omega arith) ∙ ap (λ k. decimal k ++ (48 + n % 10) ∷ []) front
          ∙ ap (λ k. decimal v ++ k ∷ []) last ∙ ap (λ l. l ++ c ∷ []) (r.some more) ∙ sym one)
      | inr first ↦
          (let zeroth : p ≡ 0 = omega arith in
          let is_zero : v ≡ 0 = r.none zeroth in
          let digit : 48 + n ≡ c = omega arith in
          decimal_digit n (omega arith) ∙ ap (λ k. k ∷ []) digit ∙ sym (one ∙ ap (λ k. take k text ++ c ∷ []) zeroth))
    ]
    in
    record { fits = small; none = λ e. absurd (omega arith); some = λ _. longer }

-- ---- Texts that are no numbers

pub empty_is_none : (text : List ℕ) → length text ≡ 0 → IsNoNumber (2 ^ 128) text
empty_is_none text none n small e = let some = (digits_of n small).some in omega (arith, some, ap length e)

-- a zero before other digits
pub zero_is_none : (p : ℕ) (text : List ℕ) → Reads 0 p text → 0 < p → p < length text → IsNoNumber (2 ^ 128) text
zero_is_none p text r some within n small e =
    let front : decimal 0 ≡ take p text = r.some some in
    let long : p ≡ 1 = sym (length-take-le p text (omega arith)) ∙ ap length (sym front) ∙ ap length (decimal_digit 0 (omega arith)) in
    let first : get_or text 0 0 ≡ 48 =
    sym (get_or-take p text 0 0 some) ∙ ap (λ (l : List ℕ). get_or l 0 0) (sym front) ∙ ap (λ (l : List ℕ). get_or l 0 0) (decimal_digit 0 (omega arith))
    in
    let same : get_or text 0 0 ≡ get_or (decimal n) 0 0 = ap (λ (l : List ℕ). get_or l 0 0) e in
    elim (cases_lt 0 n) [
      | inl more ↦ (let above = (digits_of n small).first more in omega (arith, above, first, same))
      | inr zero' ↦
          (let is : n ≡ 0 = omega arith in
          let one : length text ≡ 1 = ap length e ∙ ap (λ (k : ℕ). length (decimal k)) is ∙ ap length (decimal_digit 0 (omega arith)) in
          omega (arith, one, long, within))
    ]

read_before : (v p : ℕ) (text : List ℕ) → Reads v p text → v < 2 ^ 128 → read_on 0 (take p text) ≡ v
read_before v p text r small =
    elim (cases_lt 0 p) as (λ _. read_on 0 (take p text) ≡ v) [
      | inl more ↦ ap (read_on 0) (sym (r.some more)) ∙ (digits_of v small).says
      | inr first ↦ (let zeroth : p ≡ 0 = omega arith in ap (λ (k : ℕ). read_on 0 (take k text)) zeroth ∙ sym (r.none zeroth))
    ]

-- no digit is next, or one with which the number is too great
pub past_is_none :
    (v p c : ℕ) (text : List ℕ) → Reads v p text → p < length text → c ≡ get_or text p c
    → (48 ≤ c → c < 58 → 2 ^ 128 ≤ v * 10 + (c - 48)) → IsNoNumber (2 ^ 128) text
past_is_none v p c text r within at past n small e =
    let fits = r.fits in
    let digit : IsDigit c = subst IsDigit (sym (at ∙ ap (λ (l : List ℕ). get_or l p c) e)) ((digits_of n small).each p c (omega (arith, within, ap length e))) in
    let split : text ≡ take p text ++ c ∷ drop (p + 1) text =
    sym (take-append-drop p text) ∙ ap (λ (l : List ℕ). take p text ++ l) (drop_more text p c within ∙ ap (λ (x : ℕ). x ∷ drop (p + 1) text) (sym at))
    in
    let whole : n ≡ read_on (v * 10 + (c - 48)) (drop (p + 1) text) =
    sym ((digits_of n small).says) ∙ ap (read_on 0) (sym e ∙ split) ∙ read_on-append 0 (take p text) (c ∷ drop (p + 1) text)
    ∙ ap (λ (k : ℕ). read_on k (c ∷ drop (p + 1) text)) (read_before v p text r fits)
    in
    let grows = read_on-grows (v * 10 + (c - 48)) (drop (p + 1) text) in
    let most = past digit.low digit.high in
    omega (arith, whole, grows, most, small)

-- ---- Numbers before blanks

pub number_cut : (n : ℕ) (rest : List ℕ) → number_text n ++ rest ≡ decimal n ++ (32 ∷ rest)
number_cut n rest = append_assoc (decimal n) (32 ∷ []) rest

pub number_once : (m n : ℕ) (rest more : List ℕ) → m < 2 ^ 128 → n < 2 ^ 128 → number_text m ++ rest ≡ number_text n ++ more → (m ≡ n) × (rest ≡ more)
number_once m n rest more low high e =
    let once = word_once (decimal m) (decimal n) (32 ∷ rest) (32 ∷ more) (digits_of m low).word (digits_of n high).word refl refl
    (sym (number_cut m rest) ∙ e ∙ number_cut n more)
    in
    let after_front : 32 ∷ rest ≡ 32 ∷ more = once.1 in
    (decimal_once m n low high once.0, (cc))

pub numbered : (text w r rest : List ℕ) (n : ℕ) → IsCut text w r → w ≡ decimal n → r ≡ codes " " ++ rest → text ≡ number_text n ++ rest
numbered text w r rest n cut is blank =
    cut.parts ∙ ap (λ (u : List ℕ). u ++ r) is ∙ ap (λ (u : List ℕ). decimal n ++ u) blank ∙ sym (append_assoc (decimal n) (codes " ") rest)

pub unnumbered : (text w r : List ℕ) → IsCut text w r → IsNoNumber (2 ^ 128) w → HasNoNumber (2 ^ 128) text
unnumbered text w r cut none n rest small e =
    none n small (cut_once text w r (decimal n) (32 ∷ rest) cut (digits_of n small).word refl (e ∙ number_cut n rest)).0

pub unblanked : (text w r : List ℕ) → IsCut text w r → ((q : List ℕ) → r ≡ 32 ∷ q → ⊥) → HasNoNumber (2 ^ 128) text
unblanked text w r cut none n rest small e =
    none rest (cut_once text w r (decimal n) (32 ∷ rest) cut (digits_of n small).word refl (e ∙ number_cut n rest)).1

pub too_wide : (text r : List ℕ) (m : ℕ) → text ≡ number_text m ++ r → IsWide m → HasNoNumber (2 ^ 64) text
too_wide text r m parts wide n rest small e =
    let low = wide.low in
    let same = (number_once m n r rest wide.high (omega arith) (sym parts ∙ e)).0 in
    omega (arith, same, low, small)

pub narrowed : (o : Option ℕ) (m : ℕ) (text : List ℕ) → text ≡ decimal m → MatchOption o (IsWide m) (λ n. n ≡ m) → MatchOption o (IsNoNumber (2 ^ 64) text) (λ n. text ≡ decimal n)
narrowed None m text is wide = λ n small e.
    let low = wide.low in
    let same = decimal_once m n wide.high (omega arith) (sym is ∙ e) in
    omega (arith, same, low, small)
narrowed (Some k) m text is same = is ∙ ap decimal (sym same)
