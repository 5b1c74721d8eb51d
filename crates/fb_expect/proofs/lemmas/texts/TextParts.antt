-- The parts of a text before and after a mark.
use Rattle.fb_types.proofs.Common.{◌≡◌, ℕ, ◌+◌, ◌-◌, ◌<◌, ◌≤◌, Bool, List, [], ◌∷◌, ◌++◌, cond, inl, inr, ltb, nat_eq, true, false, length, get_or, take, drop, Some, None, Result, Ok, Err, refl, sym, ap, ap₂, ◌∙◌, append_assoc, arith, OnOk, Option, ◌&&◌, ◌||◌, if◌then◌else◌, is_some, option_map, position, unwrap_or, take_all, length-drop, cases_lt, lt-ltb, list_all, list_any, position_or_len, slice_split}
use Rattle.std.proofs.Common.{filter}
use Rattle.std.proofs.lemmas.List.Splits.{slice_split_first, slice_split_none}
use Rattle.std.proofs.lemmas.List.Sums.{fails_before_first, position_or_len_is}
use Rattle.std.specs.List.{after_first, before_first}
use Rattle.fb_expect.specs.Words.{Text, cut, is_end, split_at_mark}
use Rattle.fb_expect.specs.Written.{at_comparison, is_sign, is_word, words_of}

pub parted_at : (mark : ℕ) (z : Text) (i : ℕ) → i < length z → ((k : ℕ) → k < i → nat_eq mark (get_or z k 0) ≡ false) → nat_eq mark (get_or z i 0) ≡ true
    → Some (take i z, take (length z - (i + 1)) (drop (i + 1) z)) ≡ split_at_mark mark z
unfolding split_at_mark
parted_at mark z i lt before here =
    let e : position_or_len (nat_eq mark) z ≡ i = position_or_len_is (nat_eq mark) z i 0 (omega arith) before (λ _. here) in
    let short : length (drop (i + 1) z) ≤ length z - (i + 1) = omega (arith, length-drop (i + 1) z) in
    rw (e, lt-ltb i (length z) lt, take_all (length z - (i + 1)) (drop (i + 1) z) short) refl

pub parted_none : (mark : ℕ) (z : Text) → ((k : ℕ) → k < length z → nat_eq mark (get_or z k 0) ≡ false) → None ≡ split_at_mark mark z
unfolding split_at_mark
parted_none mark z before =
    let e : position_or_len (nat_eq mark) z ≡ length z = position_or_len_is (nat_eq mark) z (length z) 0 (omega arith) before (λ lt. absurd (omega arith)) in
    let never : ltb (length z) (length z) ≡ false = grind arith in
    rw (e, never) refl

-- what comes before the first mark, and after it
cut_at : (mark : ℕ) (z a b : Text) → Some (a, b) ≡ split_at_mark mark z
    → (position_or_len (nat_eq mark) z < length z) × (a ≡ before_first (nat_eq mark) z) × (b ≡ after_first (nat_eq mark) z)
unfolding split_at_mark
cut_at mark z a b is =
    let p = position_or_len (nat_eq mark) z in
    elim (cases_lt p (length z)) [
      | inl lt ↦
          (let e : Some (a, b) ≡ Some (take p z, drop (p + 1) z) = is ∙ (rw (lt-ltb p (length z) lt) refl) in
          (lt, ap (λ (o : Option (Text × Text)). (unwrap_or o (a, b)).0) e, ap (λ (o : Option (Text × Text)). (unwrap_or o (a, b)).1) e))
      | inr le ↦
          (let never : ltb p (length z) ≡ false = grind arith in
          let e : Some (a, b) ≡ None = is ∙ (rw never refl) in
          let no : ◌≡◌ {A = ℕ} 1 0 = ap (λ (o : Option (Text × Text)). if is_some o then 1 else 0) e in
          absurd (omega (arith, no)))
    ]

pub part_first : (mark : ℕ) (z a b : Text) → Some (a, b) ≡ split_at_mark mark z → slice_split (nat_eq mark) z ≡ a ∷ slice_split (nat_eq mark) b
part_first mark z a b is =
    let cut = cut_at mark z a b is in
    slice_split_first (nat_eq mark) z 0 cut.0 ∙ ap₂ (λ (x y : Text). x ∷ slice_split (nat_eq mark) y) (sym cut.1) (sym cut.2)

pub part_last : (mark : ℕ) (z : Text) → None ≡ split_at_mark mark z → slice_split (nat_eq mark) z ≡ z ∷ []
unfolding split_at_mark
part_last mark z is =
    let p = position_or_len (nat_eq mark) z in
    elim (cases_lt p (length z)) [
      | inl lt ↦
          (let e : None ≡ Some (take p z, drop (p + 1) z) = is ∙ (rw (lt-ltb p (length z) lt) refl) in
          let no : ◌≡◌ {A = ℕ} 0 1 = ap (λ (o : Option (Text × Text)). if is_some o then 1 else 0) e in
          absurd (omega (arith, no)))
      | inr le ↦ slice_split_none (nat_eq mark) z (λ k d lt. fails_before_first (nat_eq mark) z k d (omega (arith, lt, le)))
    ]

-- what comes after a mark is shorter
pub part_shorter : (mark : ℕ) (z a b : Text) → Some (a, b) ≡ split_at_mark mark z → length b < length z
part_shorter mark z a b is =
    let cut = cut_at mark z a b is in
    let p = position_or_len (nat_eq mark) z in
    let n : length b ≡ length z - (p + 1) = ap length cut.2 ∙ length-drop (p + 1) z in
    let lt : p < length z = cut.0 in
    omega (arith, n, lt)

-- a test of all parts, and of any
and-yes : (b : Bool) → (b && true) ≡ b
and-yes true = refl
and-yes false = refl

or-no : (b : Bool) → (b || false) ≡ b
or-no true = refl
or-no false = refl

module _ (test : Text → Bool) (mark : ℕ) where
  abbrev all_in : Text → Bool
  all_in z = list_all test (slice_split (nat_eq mark) z)

  abbrev any_in : Text → Bool
  any_in z = list_any test (slice_split (nat_eq mark) z)

  pub all-first : (z a b : Text) (t : Bool) → Some (a, b) ≡ split_at_mark mark z → test a ≡ t → all_in z ≡ (t && all_in b)
  all-first z a b t is of = ap (list_all test) (part_first mark z a b is) ∙ ap (λ (x : Bool). x && all_in b) of

  pub all-last : (z : Text) → None ≡ split_at_mark mark z → all_in z ≡ test z
  all-last z is = ap (list_all test) (part_last mark z is) ∙ and-yes (test z)

  pub any-first : (z a b : Text) (t : Bool) → Some (a, b) ≡ split_at_mark mark z → test a ≡ t → any_in z ≡ (t || any_in b)
  any-first z a b t is of = ap (list_any test) (part_first mark z a b is) ∙ ap (λ (x : Bool). x || any_in b) of

  pub any-last : (z : Text) → None ≡ split_at_mark mark z → any_in z ≡ test z
  any-last z is = ap (list_any test) (part_last mark z is) ∙ or-no (test z)

-- ---- Words

one_more : (here : Bool) (w : Text) (ws : List Text) → cond here (w ∷ ws) ws ≡ cond here (w ∷ []) [] ++ ws
one_more true w ws = refl
one_more false w ws = refl

-- with the first word of a text, and with its only one
pub with-first : (old mid : List Text) (z a b : Text) → Some (a, b) ≡ split_at_mark 32 z → mid ≡ old ++ filter is_word (a ∷ []) → old ++ words_of z ≡ mid ++ words_of b
with-first old mid z a b is more =
    ap (λ (ws : List Text). old ++ filter is_word ws) (part_first 32 z a b is) ∙ ap (λ (ws : List Text). old ++ ws) (one_more (is_word a) a (words_of b))
    ∙ sym (append_assoc old (filter is_word (a ∷ [])) (words_of b)) ∙ ap (λ (ws : List Text). ws ++ words_of b) (sym more)

with-last : (old new : List Text) (z : Text) → None ≡ split_at_mark 32 z → new ≡ old ++ filter is_word (z ∷ []) → new ≡ old ++ words_of z
with-last old new z is more = more ∙ ap (λ (ws : List Text). old ++ filter is_word ws) (sym (part_last 32 z is))

pub all-words :
    {T E : Type 0} (r : Result T E) (old mid new : List Text) (y z : Text) → None ≡ split_at_mark 32 z → old ++ words_of y ≡ mid ++ words_of z → OnOk r (new ≡ mid ++ filter is_word (z ∷ []))
    → OnOk r (new ≡ old ++ words_of y)
all-words (Ok x) old mid new y z last so_far ends = with-last mid new z last ends ∙ sym so_far
all-words (Err e) old mid new y z last so_far ends = tt

-- the parts before and from the first byte on that passes a test
test_at : (p : ℕ → Bool) (z : Text) (i : ℕ) → i < length z → ((k : ℕ) → k < i → p (get_or z k 0) ≡ false) → p (get_or z i 0) ≡ true
    → ◌≡◌ {A = Option (Text × Text)} (Some (take i z, take (length z - i) (drop i z))) (option_map (λ j. (take j z, drop j z)) (position p z))
test_at p z i lt before here =
    let e : position_or_len p z ≡ i = position_or_len_is p z i 0 (omega arith) before (λ _. here) in
    let short : length (drop i z) ≤ length z - i = omega (arith, length-drop i z) in
    rw (e, lt-ltb i (length z) lt, take_all (length z - i) (drop i z) short) refl

test_none : (p : ℕ → Bool) (z : Text) → ((k : ℕ) → k < length z → p (get_or z k 0) ≡ false) → ◌≡◌ {A = Option (Text × Text)} None (option_map (λ j. (take j z, drop j z)) (position p z))
test_none p z before =
    let e : position_or_len p z ≡ length z = position_or_len_is p z (length z) 0 (omega arith) before (λ lt. absurd (omega arith)) in
    let never : ltb (length z) (length z) ≡ false = grind arith in
    rw (e, never) refl

pub sign_at : (z : Text) (i : ℕ) → i < length z → ((k : ℕ) → k < i → is_sign (get_or z k 0) ≡ false) → is_sign (get_or z i 0) ≡ true
    → Some (take i z, take (length z - i) (drop i z)) ≡ at_comparison z
unfolding at_comparison
sign_at z i lt before here = test_at is_sign z i lt before here

pub sign_none : (z : Text) → ((k : ℕ) → k < length z → is_sign (get_or z k 0) ≡ false) → None ≡ at_comparison z
unfolding at_comparison
sign_none z before = test_none is_sign z before

pub end_at : (z : Text) (i : ℕ) → i < length z → ((k : ℕ) → k < i → is_end (get_or z k 0) ≡ false) → is_end (get_or z i 0) ≡ true
    → Some (take i z, take (length z - i) (drop i z)) ≡ cut z
unfolding cut
end_at z i lt before here = test_at is_end z i lt before here

pub end_none : (z : Text) → ((k : ℕ) → k < length z → is_end (get_or z k 0) ≡ false) → None ≡ cut z
unfolding cut
end_none z before = test_none is_end z before
