-- Digits, letters and words, a byte at a time.
use Rattle.fb_types.proofs.Common.{◌≡◌, ℕ, suc, ◌+◌, ◌-◌, ◌<◌, ◌≤◌, Bool, true, false, not, cond, eqb, leb, ltb, List, [], ◌∷◌, ◌++◌, length, take, Option, Some, None, refl, sym, subst, inl, inr, arith, ◌&&◌, is_ascii_digit, bytes_eq, cases_Bool, and_parts, and_from, and_right, or_left, or_right, le-leb, lt-leb, leb-true, ltb-true, eqb-true, true≢false, take-append-drop}
use Rattle.std.specs.Int.{is_in_range}
use Rattle.std.specs.Char.{is_ascii_alphabetic}
use Rattle.fb_read.specs.declared.time.Unit.{Unit}
use Rattle.fb_read.specs.Blank.{Text, at}
use Rattle.fb_read.specs.Words.{is_letter, is_word, upper, in_upper, word_len, word_of}
use Rattle.fb_read.specs.Numbers.{digit_of, are_digits, value_of, small, number}
use Rattle.fb_read.specs.Durations.{digits_at, after_digits, unit_at, after_unit, letters_len, name_of, ticks_of, next_part, small_product, small_sum, ended, parts, duration, falling_units}
use Rattle.fb_read.specs.Longest.{AreWord}

upper_letter : (b : ℕ) → 65 ≤ b → b ≤ 90 → is_word b ≡ true
upper_letter b lo hi = or_left _ _ (or_left _ _ (or_left (is_in_range 65 90 b) _ (and_from (leb 65 b) (leb b 90) (le-leb 65 b lo) (le-leb b 90 hi))))

lower_letter : (b : ℕ) → 97 ≤ b → b ≤ 122 → is_word b ≡ true
lower_letter b lo hi = or_left _ _ (or_left _ _ (or_right (is_in_range 65 90 b) _ (and_from (leb 97 b) (leb b 122) (le-leb 97 b lo) (le-leb b 122 hi))))

digit-word : (b : ℕ) → digit_of b < 16 → is_word b ≡ true
digit-word b lt = elim (cases_Bool (leb 48 b && leb b 57)) [
  | inl d ↦ or_right (is_letter b) (is_ascii_digit b) d
  | inr d ↦ elim (cases_Bool (leb 65 b && leb b 70)) [
    | inl u ↦ let p = and_parts _ _ u in upper_letter b (leb-true 65 b p.0) (omega (arith, leb-true b 70 p.1))
    | inr u ↦ elim (cases_Bool (leb 97 b && leb b 102)) [
      | inl l ↦ let p = and_parts _ _ l in lower_letter b (leb-true 97 b p.0) (omega (arith, leb-true b 102 p.1))
      | inr l ↦ let e : digit_of b ≡ 16 = rw (d, u, l) refl in absurd (omega arith)
    ]
  ]
]

pub digit-decimal : (b : ℕ) → digit_of b < 10 → is_ascii_digit b ≡ true
digit-decimal b lt = elim (cases_Bool (leb 48 b && leb b 57)) [
  | inl d ↦ d
  | inr d ↦ elim (cases_Bool (leb 65 b && leb b 70)) [
    | inl u ↦ let p = and_parts (leb 65 b) (leb b 70) u in let e : digit_of b ≡ b - 55 = rw (d, u) refl in absurd (omega (arith, leb-true 65 b p.0))
    | inr u ↦ elim (cases_Bool (leb 97 b && leb b 102)) [
      | inl l ↦ let p = and_parts (leb 97 b) (leb b 102) l in let e : digit_of b ≡ b - 87 = rw (d, u, l) refl in absurd (omega (arith, leb-true 97 b p.0))
      | inr l ↦ let e : digit_of b ≡ 16 = rw (d, u, l) refl in absurd (omega arith)
    ]
  ]
]

pub digit-not-letter : (b : ℕ) → is_ascii_digit b ≡ true → is_letter b ≡ false
digit-not-letter b h =
    let p = and_parts (leb 48 b) (leb b 57) h in
    let hi = leb-true b 57 p.1 in
    let a : leb 65 b ≡ false = lt-leb 65 b (omega arith) in
    let c : leb 97 b ≡ false = lt-leb 97 b (omega arith) in
    let u : eqb b 95 ≡ false = grind arith in
    rw (a, c, u) refl

are_digits-word : (base : ℕ) (expected : Bool) (z : Text) → base ≤ 16 → are_digits base expected z ≡ true → AreWord z
are_digits-word base expected [] le h = tt
are_digits-word base expected (b ∷ z) le h = go (λ w. are_digits-word base w z le) (eqb b 95 && not expected) refl h
  where
    go : ((w : Bool) → are_digits base w z ≡ true → AreWord z) → (t : Bool) → (eqb b 95 && not expected) ≡ t → cond t (are_digits base true z) (ltb (digit_of b) base && are_digits base false z) ≡ true → AreWord (b ∷ z)
    go again true e h = let m : b ≡ 95 = eqb-true b 95 (and_parts _ _ e).0 in (rw m refl, again true h)
    go again false e h = let p = and_parts _ _ h in let lt = ltb-true (digit_of b) base p.0 in (digit-word b (omega arith), again false p.1)

-- the digits of a number
pub number-digits : (base : ℕ) (z : Text) (n : ℕ) → number base z ≡ Some n → are_digits base true z ≡ true
unfolding number
number-digits base z n h = go (are_digits base true z) refl h
  where
    go : (t : Bool) → are_digits base true z ≡ t → cond t (small (value_of base z)) None ≡ Some n → t ≡ true
    go true e h = refl
    go false e h = absurd cc

pub number-word : (base : ℕ) (z : Text) (n : ℕ) → base ≤ 16 → number base z ≡ Some n → AreWord z
number-word base z n le h = are_digits-word base true z le (number-digits base z n h)

pub decimal-first : (z : Text) (n : ℕ) → number 10 z ≡ Some n → is_ascii_digit (at z 0) ≡ true
decimal-first z n h = go z (number-digits 10 z n h)
  where
    go : (z : Text) → are_digits 10 true z ≡ true → is_ascii_digit (at z 0) ≡ true
    go [] e = absurd (true≢false (sym e))
    go (b ∷ z) e =
        let w = and_right (eqb b 95) false refl in
        let d = rw w at e in
        digit-decimal b (ltb-true (digit_of b) 10 (and_parts (ltb (digit_of b) 10) (are_digits 10 false z) d).0)

pub upper-word : (b : ℕ) → is_word (upper b) ≡ true → is_word b ≡ true
upper-word b h = go (leb 97 b && leb b 122) refl h
  where
    go : (t : Bool) → (leb 97 b && leb b 122) ≡ t → is_word (cond t (b - 32) b) ≡ true → is_word b ≡ true
    go true e h = let p = and_parts _ _ e in lower_letter b (leb-true 97 b p.0) (leb-true b 122 p.1)
    go false e h = h

pub upper-letter : (b : ℕ) → is_letter (upper b) ≡ true → is_letter b ≡ true
upper-letter b h = go (leb 97 b && leb b 122) refl h
  where
    go : (t : Bool) → (leb 97 b && leb b 122) ≡ t → is_letter (cond t (b - 32) b) ≡ true → is_letter b ≡ true
    go true e h = or_left (is_ascii_alphabetic b) (eqb b 95) (or_right (is_in_range 65 90 b) (is_in_range 97 122 b) e)
    go false e h = h

pub in_upper-word : (z : Text) → AreWord (in_upper z) → AreWord z
in_upper-word [] h = tt
in_upper-word (b ∷ z) h = (upper-word b h.0, in_upper-word z h.1)

AreWord-append : (a b : Text) → AreWord a → AreWord b → AreWord (a ++ b)
AreWord-append [] b h k = k
AreWord-append (x ∷ a) b h k = (h.0, AreWord-append a b h.1 k)

letters-word : (y : Text) → AreWord (take (letters_len y) y)
letters-word [] = tt
letters-word (b ∷ y) = go (letters-word y) (is_ascii_alphabetic b) refl
  where
    go : AreWord (take (letters_len y) y) → (t : Bool) → is_ascii_alphabetic b ≡ t → AreWord (take (cond t (1 + letters_len y) 0) (b ∷ y))
    go rest true e = let k : 1 + letters_len y ≡ suc (letters_len y) = omega arith in rw k (or_left _ _ (or_left _ _ e), rest)
    go rest false e = tt

-- a sum of two that is there has both
sum-parts : (a b : Option ℕ) (n : ℕ) → small_sum a b ≡ Some n → (x : ℕ) × (y : ℕ) × (a ≡ Some x) × (b ≡ Some y)
sum-parts None b n h = absurd cc
sum-parts (Some x) None n h = absurd cc
sum-parts (Some x) (Some y) n h = (x, y, refl, refl)

product-part : (a : Option ℕ) (k n : ℕ) → small_product a k ≡ Some n → (x : ℕ) × (a ≡ Some x)
product-part None k n h = absurd cc
product-part (Some x) k n h = (x, refl)

next_part-word : (b : ℕ) (y : Text) → AreWord (next_part (b ∷ y)) → AreWord (b ∷ y)
next_part-word b y h = go (eqb b 95) refl h
  where
    go : (t : Bool) → eqb b 95 ≡ t → AreWord (cond t y (b ∷ y)) → AreWord (b ∷ y)
    go true e h = let m : b ≡ 95 = eqb-true b 95 e in (rw m refl, h)
    go false e h = h

following-word : (less : List Unit) (again : (z : Text) (n : ℕ) → parts less z ≡ Some n → AreWord z) (y : Text) (m : ℕ) → ended y (parts less (next_part y)) ≡ Some m → AreWord y
following-word less again [] m h = tt
following-word less again (b ∷ y) m h = next_part-word b y (again (next_part (b ∷ y)) m h)

parts-word : (us : List Unit) (z : Text) (n : ℕ) → parts us z ≡ Some n → AreWord z
unfolding parts
parts-word [] z n h = absurd cc
parts-word (u ∷ less) z n h = go (parts-word less) (bytes_eq (unit_at z) (name_of u)) h
  where
    all : Option ℕ
    all = small_sum (small_product (number 10 (digits_at z)) (ticks_of u)) (ended (after_unit z) (parts less (next_part (after_unit z))))

    go : ((z : Text) (n : ℕ) → parts less z ≡ Some n → AreWord z) → (t : Bool) → cond t (small_sum (small_product (number 10 (digits_at z)) (ticks_of u)) (ended (after_unit z) (parts less (next_part (after_unit z))))) (parts less z) ≡ Some n → AreWord z
    go again true h =
        let s = sum-parts _ _ n h in
        let p = product-part (number 10 (digits_at z)) (ticks_of u) s.0 s.2 in
        let digits = number-word 10 (digits_at z) p.0 (omega arith) p.1 in
        let unit = letters-word (after_digits z) in
        let rest = following-word less again (after_unit z) s.1 s.3 in
        let tail : AreWord (after_digits z) = subst AreWord (take-append-drop _ (after_digits z)) (AreWord-append (unit_at z) (after_unit z) unit rest) in
        subst AreWord (take-append-drop _ z) (AreWord-append (digits_at z) (after_digits z) digits tail)
    go again false h = again z n h

pub duration-word : (z : Text) (n : ℕ) → duration (in_upper z) ≡ Some n → AreWord z
duration-word z n h = in_upper-word z (parts-word falling_units (in_upper z) n h)

-- no longer front of the text has only letters, digits and underscores
pub longest : (a rest : Text) → AreWord a → length a ≤ word_len (a ++ rest)
longest [] rest h = omega arith
longest (b ∷ a) rest h = rw h.0 (omega (arith, longest a rest h.1))

pub all_word : (z : Text) → AreWord (word_of z)
all_word [] = tt
all_word (b ∷ z) = go (all_word z) (is_word b) refl
  where
    go : AreWord (word_of z) → (t : Bool) → is_word b ≡ t → AreWord (take (cond t (1 + word_len z) 0) (b ∷ z))
    go rest true e = let k : 1 + word_len z ≡ suc (word_len z) = omega arith in rw k (e, rest)
    go rest false e = tt

pub word_of-cons : (b : ℕ) (z : Text) → is_word b ≡ true → word_of (b ∷ z) ≡ b ∷ word_of z
word_of-cons b z h = let k : 1 + word_len z ≡ suc (word_len z) = omega arith in rw (h, k) refl

-- a word ends before another byte
pub word-ends : (w : Text) (c : ℕ) (y : Text) → AreWord w → is_word c ≡ false → word_len (w ++ c ∷ y) ≡ length w
word-ends [] c y h e = rw e refl
word-ends (b ∷ w) c y h e = rw h.0 (omega (arith, word-ends w c y h.1 e))

pub word-stops : (z : Text) → is_word (at z (word_len z)) ≡ false
word-stops [] = refl
word-stops (b ∷ z) = go (word-stops z) (is_word b) refl
  where
    go : is_word (at z (word_len z)) ≡ false → (t : Bool) → is_word b ≡ t → is_word (at (b ∷ z) (cond t (1 + word_len z) 0)) ≡ false
    go rest true e = let k : 1 + word_len z ≡ suc (word_len z) = omega arith in rw k rest
    go rest false e = e

pub bytes_same : (a b : Text) → bytes_eq a b ≡ true → a ≡ b
bytes_same [] [] h = refl
bytes_same [] (y ∷ b) h = absurd (true≢false (sym h))
bytes_same (x ∷ a) [] h = absurd (true≢false (sym h))
bytes_same (x ∷ a) (y ∷ b) h =
    let p = and_parts (eqb x y) (bytes_eq a b) h in
    let first : x ≡ y = eqb-true x y p.0 in
    let rest = bytes_same a b p.1 in
    rw (first, rest) refl
