-- A duration is parts with units that fall.
use Rattle.fb_types.proofs.Common.{◌≡◌, ℕ, ◌+◌, ◌*◌, ◌<◌, ◌≤◌, Bool, true, false, not, cond, eqb, leb, ltb, List, [], ◌∷◌, ◌++◌, length, drop, Option, Some, None, refl, sym, ap, subst, ◌∙◌, inl, inr, append_assoc, append-nil, arith, ◌⊎◌, ◌&&◌, codes, is_ascii_digit, bytes_eq, and_parts, or_parts, le-leb, leb-true, ltb-true, eqb-true, true≢false, false_from_ne_true, take_at, take-append-drop}
use Rattle.std.specs.Char.{is_ascii_alphabetic}
use Rattle.fb_read.specs.declared.time.Unit.{Unit}
use Rattle.fb_read.specs.declared.time.Unit.TheVariants as unit
use Rattle.fb_read.specs.Limits.{most}
use Rattle.fb_read.specs.Blank.{Text, at}
use Rattle.fb_read.specs.Numbers.{digit_of, are_digits, small, number}
use Rattle.fb_read.specs.Durations.{name_of, ticks_of, falling_units, digits_len, letters_len, digits_at, after_digits, unit_at, after_unit, next_part, small_product, small_sum, ended, parts}
use Rattle.fb_read.specs.TimeParts.{IsPart, a_part, AreParts, a_last, a_further, apart, DurationsExactly}
use Rattle.fb_read.proofs.lemmas.tokens.ByteLaws.{digit-not-letter, digit-decimal, number-digits, decimal-first, bytes_same}

-- ---- numbers within the bound

within : (n m : ℕ) → small n ≡ Some m → (n ≡ m) × (m ≤ most)
within n m h = go (leb n most) refl h
  where
    go : (b : Bool) → leb n most ≡ b → cond b (Some n) None ≡ Some m → (n ≡ m) × (m ≤ most)
    go true e h = let same : n ≡ m = cc in (same, subst (λ (k : ℕ). k ≤ most) same (leb-true n most e))
    go false e h = absurd cc

small-is : (n : ℕ) → n ≤ most → small n ≡ Some n
small-is n le = rw (le-leb n most le) refl

-- ---- what is at the front of a part

abbrev NoLetters : Text → Type 0
NoLetters [] = Prim.Unit {0}
NoLetters (b ∷ z) = (is_ascii_alphabetic b ≡ false) × NoLetters z

abbrev Letters : Text → Type 0
Letters [] = Prim.Unit {0}
Letters (b ∷ z) = (is_ascii_alphabetic b ≡ true) × Letters z

digits-end : (d : Text) (b : ℕ) (y : Text) → NoLetters d → is_ascii_alphabetic b ≡ true → digits_len (d ++ b ∷ y) ≡ length d
digits-end [] b y h e = rw e refl
digits-end (c ∷ d) b y h e = rw h.0 (omega (arith, digits-end d b y h.1 e))

letters-end : (w y : Text) → Letters w → is_ascii_alphabetic (at y 0) ≡ false → letters_len (w ++ y) ≡ length w
letters-end [] [] h e = refl
letters-end [] (b ∷ y) h e = rw e refl
letters-end (c ∷ w) y h e = rw h.0 (omega (arith, letters-end w y h.1 e))

no-letter : (b : ℕ) → is_ascii_digit b ≡ true → is_ascii_alphabetic b ≡ false
no-letter b h = (or_parts (is_ascii_alphabetic b) (eqb b 95) (digit-not-letter b h)).0

no-letters : (expected : Bool) (z : Text) → are_digits 10 expected z ≡ true → NoLetters z
no-letters expected [] h = tt
no-letters expected (b ∷ z) h = go (λ w. no-letters w z) (eqb b 95 && not expected) refl h
  where
    go : ((w : Bool) → are_digits 10 w z ≡ true → NoLetters z) → (t : Bool) → (eqb b 95 && not expected) ≡ t
        → cond t (are_digits 10 true z) (ltb (digit_of b) 10 && are_digits 10 false z) ≡ true → NoLetters (b ∷ z)
    go again true e h = let m : b ≡ 95 = eqb-true b 95 (and_parts _ _ e).0 in (rw m refl, again true h)
    go again false e h =
        let p = and_parts (ltb (digit_of b) 10) (are_digits 10 false z) h in
        (no-letter b (digit-decimal b (ltb-true (digit_of b) 10 p.0)), again false p.1)

name-letters : (u : Unit) → Letters (name_of u)
name-letters unit.Day = (refl, tt)
name-letters unit.Hour = (refl, tt)
name-letters unit.Minute = (refl, tt)
name-letters unit.Second = (refl, tt)
name-letters unit.Millisecond = (refl, (refl, tt))

digits-of : (d : Text) (u : Unit) (y : Text) → NoLetters d → digits_len (d ++ (name_of u ++ y)) ≡ length d
digits-of d unit.Day y h = digits-end d 68 y h refl
digits-of d unit.Hour y h = digits-end d 72 y h refl
digits-of d unit.Minute y h = digits-end d 77 y h refl
digits-of d unit.Second y h = digits-end d 83 y h refl
digits-of d unit.Millisecond y h = digits-end d 77 (83 ∷ y) h refl

drop_at : (a b : Text) (n : ℕ) → n ≡ length a → drop n (a ++ b) ≡ b
drop_at [] b n e = rw e refl
drop_at (x ∷ a) b n e = rw e (drop_at a b (length a) refl)

record Front (d name y z : Text) : Type 0 where
  digits : digits_at z ≡ d
  unit : unit_at z ≡ name
  following : after_unit z ≡ y

front-of : (d : Text) (u : Unit) (y : Text) → NoLetters d → is_ascii_alphabetic (at y 0) ≡ false → Front d (name_of u) y (d ++ (name_of u ++ y))
front-of d u y h e =
    let n = digits-of d u y h in
    let rest : after_digits (d ++ (name_of u ++ y)) ≡ name_of u ++ y = drop_at d (name_of u ++ y) _ n in
    let m = letters-end (name_of u) y (name-letters u) e in
    record {
      digits = take_at d (name_of u ++ y) _ (sym n);
      unit = rw rest (take_at (name_of u) y _ (sym m));
      following = rw rest (drop_at (name_of u) y _ m);
    }

-- ---- units

ticks_named : Text → ℕ
ticks_named z =
    cond (bytes_eq z (codes "D")) 86400000 (cond (bytes_eq z (codes "H")) 3600000 (cond (bytes_eq z (codes "M")) 60000 (cond (bytes_eq z (codes "S")) 1000 1)))

named-is : (u : Unit) → ticks_named (name_of u) ≡ ticks_of u
unfolding ticks_named
named-is unit.Day = refl
named-is unit.Hour = refl
named-is unit.Minute = refl
named-is unit.Second = refl
named-is unit.Millisecond = refl

other-name : (u v : Unit) → ticks_of u < ticks_of v → bytes_eq (name_of u) (name_of v) ≡ false
other-name u v lt = false_from_ne_true _ (λ e.
    let same : ticks_of u ≡ ticks_of v = sym (named-is u) ∙ (ap ticks_named (bytes_same (name_of u) (name_of v) e) ∙ named-is v) in
    omega arith)

bytes_self : (z : Text) → bytes_eq z z ≡ true
bytes_self [] = refl
bytes_self (b ∷ z) = let e : eqb b b ≡ true = grind arith in rw (e, bytes_self z) refl

-- units, each smaller than the one before it
abbrev Below : ℕ → List Unit → Type 0
Below k [] = Prim.Unit {0}
Below k (u ∷ us) = (ticks_of u < k) × Below (ticks_of u) us

-- each smaller unit comes
abbrev Comes : ℕ → List Unit → Type 0
Comes k [] = (v : Unit) → ticks_of v < k → ⊥
Comes k (u ∷ us) = ((v : Unit) → ticks_of v < k → (v ≡ u) ⊎ (ticks_of v < ticks_of u)) × Comes (ticks_of u) us

below-all : Below 86400001 falling_units
below-all = (omega arith, (omega arith, (omega arith, (omega arith, (omega arith, tt)))))

comes-all : Comes 86400001 falling_units
comes-all = (days, (hours, (minutes, (seconds, (milliseconds, none)))))
  where
    days : (v : Unit) → ticks_of v < 86400001 → (v ≡ unit.Day) ⊎ (ticks_of v < 86400000)
    days unit.Day lt = inl refl
    days unit.Hour lt = inr (omega arith)
    days unit.Minute lt = inr (omega arith)
    days unit.Second lt = inr (omega arith)
    days unit.Millisecond lt = inr (omega arith)

    hours : (v : Unit) → ticks_of v < 86400000 → (v ≡ unit.Hour) ⊎ (ticks_of v < 3600000)
    hours unit.Day lt = absurd (omega arith)
    hours unit.Hour lt = inl refl
    hours unit.Minute lt = inr (omega arith)
    hours unit.Second lt = inr (omega arith)
    hours unit.Millisecond lt = inr (omega arith)

    minutes : (v : Unit) → ticks_of v < 3600000 → (v ≡ unit.Minute) ⊎ (ticks_of v < 60000)
    minutes unit.Day lt = absurd (omega arith)
    minutes unit.Hour lt = absurd (omega arith)
    minutes unit.Minute lt = inl refl
    minutes unit.Second lt = inr (omega arith)
    minutes unit.Millisecond lt = inr (omega arith)

    seconds : (v : Unit) → ticks_of v < 60000 → (v ≡ unit.Second) ⊎ (ticks_of v < 1000)
    seconds unit.Day lt = absurd (omega arith)
    seconds unit.Hour lt = absurd (omega arith)
    seconds unit.Minute lt = absurd (omega arith)
    seconds unit.Second lt = inl refl
    seconds unit.Millisecond lt = inr (omega arith)

    milliseconds : (v : Unit) → ticks_of v < 1000 → (v ≡ unit.Millisecond) ⊎ (ticks_of v < 1)
    milliseconds unit.Day lt = absurd (omega arith)
    milliseconds unit.Hour lt = absurd (omega arith)
    milliseconds unit.Minute lt = absurd (omega arith)
    milliseconds unit.Second lt = absurd (omega arith)
    milliseconds unit.Millisecond lt = inl refl

    none : (v : Unit) → ticks_of v < 1 → ⊥
    none unit.Day lt = omega arith
    none unit.Hour lt = omega arith
    none unit.Minute lt = omega arith
    none unit.Second lt = omega arith
    none unit.Millisecond lt = omega arith

-- ---- what is read as a duration is one

record Sound (k : ℕ) (z : Text) (n : ℕ) : Type 0 where
  first : Unit
  smaller : ticks_of first < k
  are_parts : AreParts first z n
  bounded : n ≤ most

abbrev Reads : List Unit → ℕ → Type 0
Reads us k = (z : Text) (n : ℕ) → parts us z ≡ Some n → Sound k z n

-- a first part, and the sum of its ticks and those after it
abbrev first_and_rest : Unit → List Unit → Text → Option ℕ
first_and_rest u less z = small_sum (small_product (number 10 (digits_at z)) (ticks_of u)) (ended (after_unit z) (parts less (next_part (after_unit z))))

product-is : (a : Option ℕ) (k n : ℕ) → small_product a k ≡ Some n → (m : ℕ) × (a ≡ Some m) × (m * k ≡ n)
product-is None k n h = absurd cc
product-is (Some m) k n h = (m, refl, (within (m * k) n h).0)

record Sum (a b : Option ℕ) (n : ℕ) : Type 0 where
  x : ℕ
  y : ℕ
  x_is : a ≡ Some x
  y_is : b ≡ Some y
  sum_is : x + y ≡ n
  bounded : n ≤ most

sum-is : (a b : Option ℕ) (n : ℕ) → small_sum a b ≡ Some n → Sum a b n
sum-is None b n h = absurd cc
sum-is (Some x) None n h = absurd cc
sum-is (Some x) (Some y) n h = let w = within (x + y) n h in record { x = x; y = y; x_is = refl; y_is = refl; sum_is = w.0; bounded = w.1 }

-- the text is cut into digits, a unit and the rest
split : (z : Text) → digits_at z ++ (unit_at z ++ after_unit z) ≡ z
split z = ap (λ (y : Text). digits_at z ++ y) (take-append-drop (letters_len (after_digits z)) (after_digits z)) ∙ take-append-drop (digits_len z) z

is-part : (u : Unit) (z : Text) (x : ℕ) → bytes_eq (unit_at z) (name_of u) ≡ true → small_product (number 10 (digits_at z)) (ticks_of u) ≡ Some x
    → IsPart u (digits_at z ++ unit_at z) x
is-part u z x e h =
    let p = product-is (number 10 (digits_at z)) (ticks_of u) x h in
    let name : name_of u ≡ unit_at z = sym (bytes_same (unit_at z) (name_of u) e) in
    subst (λ (w : Text). IsPart u (digits_at z ++ w) x) name (subst (λ (k : ℕ). IsPart u (digits_at z ++ name_of u) k) p.2 (a_part u (digits_at z) p.0 p.1))

join : (u : Unit) (less : List Unit) (a rest : Text) (x y : ℕ) → Reads less (ticks_of u) → IsPart u a x → ended rest (parts less (next_part rest)) ≡ Some y
    → AreParts u (a ++ rest) (x + y)
join u less a [] x y again p h =
    let zero : y ≡ 0 = cc in
    let sum : x + y ≡ x = omega arith in
    rw (append-nil a, sum) (a_last u a x p)
join u less a (b ∷ z) x y again p h = go (eqb b 95) refl h
  where
    go : (t : Bool) → eqb b 95 ≡ t → parts less (cond t z (b ∷ z)) ≡ Some y → AreParts u (a ++ b ∷ z) (x + y)
    go true e h =
        let s = again z y h in
        let line : b ≡ 95 = eqb-true b 95 e in
        rw line (apart u s.first a z x y p s.smaller s.are_parts)
    go false e h = let s = again (b ∷ z) y h in a_further u s.first a (b ∷ z) x y p s.smaller s.are_parts

sound : (us : List Unit) (k : ℕ) → Below k us → Reads us k
unfolding parts
sound [] k f z n h = absurd cc
sound (u ∷ less) k f z n h = go (sound less (ticks_of u) f.1) (bytes_eq (unit_at z) (name_of u)) refl h
  where
    go : Reads less (ticks_of u) → (t : Bool) → bytes_eq (unit_at z) (name_of u) ≡ t → cond t (first_and_rest u less z) (parts less z) ≡ Some n → Sound k z n
    go again true e h =
        let s = sum-is (small_product (number 10 (digits_at z)) (ticks_of u)) (ended (after_unit z) (parts less (next_part (after_unit z)))) n h in
        let all = join u less (digits_at z ++ unit_at z) (after_unit z) s.x s.y again (is-part u z s.x e s.x_is) s.y_is in
        let whole : AreParts u z (s.x + s.y) = subst (λ (w : Text). AreParts u w (s.x + s.y)) (append_assoc (digits_at z) (unit_at z) (after_unit z) ∙ split z) all in
        record { first = u; smaller = f.0; are_parts = subst (λ (m : ℕ). AreParts u z m) s.sum_is whole; bounded = s.bounded }
    go again false e h =
        let s = again z n h in
        let lt : ticks_of s.first < k = omega (arith, s.smaller, f.0) in
        record { first = s.first; smaller = lt; are_parts = s.are_parts; bounded = s.bounded }

-- ---- and each duration is read

-- the first byte of parts is a digit
part-first : (u : Unit) (a y : Text) (n : ℕ) → IsPart u a n → is_ascii_digit (at (a ++ y) 0) ≡ true
part-first u a y n (a_part v d m e) = go d (decimal-first d m e)
  where
    go : (d : Text) → is_ascii_digit (at d 0) ≡ true → is_ascii_digit (at ((d ++ name_of v) ++ y) 0) ≡ true
    go [] h = absurd (true≢false (sym h))
    go (b ∷ d) h = h

parts-first : (u : Unit) (z : Text) (n : ℕ) → AreParts u z n → is_ascii_digit (at z 0) ≡ true
parts-first u z n (a_last v a m p) = subst (λ (y : Text). is_ascii_digit (at y 0) ≡ true) (append-nil a) (part-first v a [] m p)
parts-first u z n (a_further v w a y m k p lt q) = part-first v a y m p
parts-first u z n (apart v w a y m k p lt q) = part-first v a (95 ∷ y) m p

-- a part, with what follows it
part-front : (u : Unit) (a y : Text) (n : ℕ) → IsPart u a n → is_ascii_alphabetic (at y 0) ≡ false
    → (m : ℕ) × (unit_at (a ++ y) ≡ name_of u) × (number 10 (digits_at (a ++ y)) ≡ Some m) × (m * ticks_of u ≡ n) × (after_unit (a ++ y) ≡ y)
part-front u a y n (a_part v d m e) h =
    let f = front-of d v y (no-letters true d (number-digits 10 d m e)) h in
    rw append_assoc (m, f.unit, rw f.digits e, refl, f.following)

-- parts are read by the units from some one on
abbrev Finds : List Unit → ℕ → Type 0
Finds us k = (u : Unit) (z : Text) (n : ℕ) → ticks_of u < k → AreParts u z n → n ≤ most → parts us z ≡ Some n

-- a part, and what follows it
first-read : (u : Unit) (less : List Unit) (a y : Text) (m n : ℕ) → IsPart u a m → is_ascii_alphabetic (at y 0) ≡ false
    → ended y (parts less (next_part y)) ≡ Some n → m + n ≤ most → parts (u ∷ less) (a ++ y) ≡ Some (m + n)
unfolding parts
first-read u less a y m n p h e le =
    let f = part-front u a y m p h in
    let product : small_product (number 10 (digits_at (a ++ y))) (ticks_of u) ≡ Some m = rw (f.2, f.3) (small-is m (omega arith)) in
    rw (f.1, bytes_self (name_of u), product, f.4, e) (small-is (m + n) le)

-- the first unit is the right one
read-first : (u : Unit) (less : List Unit) (z : Text) (n : ℕ) → Finds less (ticks_of u) → AreParts u z n → n ≤ most → parts (u ∷ less) z ≡ Some n
read-first u less z n again (a_last v a m p) le =
    let sum : m + 0 ≡ m = omega arith in
    let r = first-read v less a [] m 0 p refl refl (omega arith) in
    rw (append-nil a, sum) at r
read-first u less z n again (a_further v w a y m k p lt q) le = following y (parts-first w y k q) q
  where
    following : (y : Text) → is_ascii_digit (at y 0) ≡ true → AreParts w y k → parts (v ∷ less) (a ++ y) ≡ Some (m + k)
    following [] d q = absurd (true≢false (sym d))
    following (b ∷ y) d q =
        let other : eqb b 95 ≡ false = false_from_ne_true (eqb b 95) (λ e. true≢false (sym d ∙ ap is_ascii_digit (eqb-true b 95 e))) in
        let next : next_part (b ∷ y) ≡ b ∷ y = rw other refl in
        first-read v less a (b ∷ y) m k p (no-letter b d) (rw next (again w (b ∷ y) k lt q (omega arith))) le
read-first u less z n again (apart v w a y m k p lt q) le = first-read v less a (95 ∷ y) m k p refl (again w y k lt q (omega arith)) le

-- another unit is there
unit-of : (u : Unit) (z : Text) (n : ℕ) → AreParts u z n → unit_at z ≡ name_of u
unit-of u z n (a_last v a m p) = subst (λ (y : Text). unit_at y ≡ name_of v) (append-nil a) (part-front v a [] m p refl).1
unit-of u z n (a_further v w a y m k p lt q) = (part-front v a y m p (no-letter (at y 0) (parts-first w y k q))).1
unit-of u z n (apart v w a y m k p lt q) = (part-front v a (95 ∷ y) m p refl).1

-- no part has the first unit
read-later : (w u : Unit) (less : List Unit) (z : Text) (n : ℕ) → ticks_of u < ticks_of w → AreParts u z n → parts less z ≡ Some n → parts (w ∷ less) z ≡ Some n
unfolding parts
read-later w u less z n lt a h = rw (unit-of u z n a, other-name u w lt) h

complete : (us : List Unit) (k : ℕ) → Comes k us → Finds us k
complete [] k c u z n lt a le = absurd (c u lt)
complete (w ∷ less) k c u z n lt a le = go (complete less (ticks_of w) c.1) (c.0 u lt)
  where
    go : Finds less (ticks_of w) → (u ≡ w) ⊎ (ticks_of u < ticks_of w) → parts (w ∷ less) z ≡ Some n
    go again (inl e) = read-first w less z n again (subst (λ (v : Unit). AreParts v z n) e a) le
    go again (inr smaller) = read-later w u less z n smaller a (again u z n smaller a le)

pub durations-exactly : DurationsExactly
durations-exactly z n = (
  (λ e. let s = sound falling_units 86400001 below-all z n e in record { first = s.first; are_parts = s.are_parts; within = s.bounded }),
  (λ d. complete falling_units 86400001 comes-all d.first z n (most-ticks d.first) d.are_parts d.within),
)
  where
    most-ticks : (u : Unit) → ticks_of u < 86400001
    most-ticks unit.Day = omega arith
    most-ticks unit.Hour = omega arith
    most-ticks unit.Minute = omega arith
    most-ticks unit.Second = omega arith
    most-ticks unit.Millisecond = omega arith
