-- What a list of variables shows, after a read, a write and a push.
use Rattle.fb_st.proofs.lemmas.Common.{◌≡◌, ℕ, ℤ, zero, suc, ◌<◌, ◌||◌, Bool, true, cond, length, List, [], ◌∷◌, ◌++◌, set, map, take, Option, Some, None, refl, sym, ◌∙◌, ap, subst, arith, slice_get, not, list_any, false≢true, true≢false, Name, same_name, Twice, End, Running, Value, word_at, point, Declared, declared_in, index_of, names_of, value_of_word, Slot, Kept}
use Rattle.fb_types.proofs.Common.{is_some, unwrap_or, option_map, position}
use Rattle.std.specs.Prelude.{is_none}
use Rattle.fb_st.specs.Kept.{all_plain, kept_as, shown}
use Rattle.fb_st.specs.Fitting.{held}
use Rattle.fb_st.specs.declared.meter.Meter.{Meter}
use Rattle.fb_st.proofs.lemmas.Comes.{both_true}
use Rattle.fb_st.proofs.lemmas.Indexes.{index_of_once, position-cons}
use Rattle.fb_st.proofs.lemmas.Making.{both}

pub kept_length : (ks : List Kept) (zs : List ℤ) → length zs ≡ length ks → length (kept_as ks zs) ≡ length ks
kept_length [] zs len = refl
kept_length (k ∷ ks) [] len = absurd (omega arith)
kept_length (k ∷ ks) (z ∷ zs) len = ap (λ n. suc n) (kept_length ks zs (omega arith))

pub kept_at : (ks : List Kept) (zs : List ℤ) (i : ℕ) (k : Kept) → length zs ≡ length ks → slice_get ks i ≡ Some k → slice_get (kept_as ks zs) i ≡ Some (shown k (word_at zs i))
kept_at [] zs i k len at = absurd cc
kept_at (j ∷ ks) [] i k len at = absurd (omega arith)
kept_at (j ∷ ks) (z ∷ zs) zero k len at = let same : j ≡ k = cc in ap (λ (x : Kept). Some (shown x z)) same
kept_at (j ∷ ks) (z ∷ zs) (suc i) k len at = kept_at ks zs i k (omega arith) at

-- no variable there
pub kept_past : (ks : List Kept) (zs : List ℤ) (i : ℕ) → length zs ≡ length ks → slice_get ks i ≡ None → slice_get (kept_as ks zs) i ≡ None
kept_past [] zs i len at = refl
kept_past (k ∷ ks) [] i len at = absurd (omega arith)
kept_past (k ∷ ks) (z ∷ zs) zero len at = absurd cc
kept_past (k ∷ ks) (z ∷ zs) (suc i) len at = kept_past ks zs i (omega arith) at

pub kept_there : (ks : List Kept) (i : ℕ) (k : Kept) → slice_get ks i ≡ Some k → i < length ks
kept_there [] i k at = absurd cc
kept_there (j ∷ ks) zero k at = omega arith
kept_there (j ∷ ks) (suc i) k at = let h = kept_there ks i k at in omega arith

-- a word more of the same variable
pub kept_set_word : (ks : List Kept) (zs : List ℤ) (i : ℕ) (k : Kept) (y : ℤ) → length zs ≡ length ks → slice_get ks i ≡ Some k → kept_as ks (set zs i y) ≡ set (kept_as ks zs) i (shown k y)
kept_set_word [] zs i k y len at = absurd cc
kept_set_word (j ∷ ks) [] i k y len at = absurd (omega arith)
kept_set_word (j ∷ ks) (z ∷ zs) zero k y len at = let same : j ≡ k = cc in ap (λ (x : Kept). shown x y ∷ kept_as ks zs) same
kept_set_word (j ∷ ks) (z ∷ zs) (suc i) k y len at = ap (λ l. shown j z ∷ l) (kept_set_word ks zs i k y (omega arith) at)

-- the variable and its word
pub kept_set_both : (ks : List Kept) (zs : List ℤ) (i : ℕ) (k : Kept) (y : ℤ) → length zs ≡ length ks → kept_as (set ks i k) (set zs i y) ≡ set (kept_as ks zs) i (shown k y)
kept_set_both [] zs i k y len = refl
kept_set_both (j ∷ ks) [] i k y len = absurd (omega arith)
kept_set_both (j ∷ ks) (z ∷ zs) zero k y len = refl
kept_set_both (j ∷ ks) (z ∷ zs) (suc i) k y len = ap (λ l. shown j z ∷ l) (kept_set_both ks zs i k y (omega arith))

pub kept_push : (ks : List Kept) (zs : List ℤ) (k : Kept) (y : ℤ) → length zs ≡ length ks → kept_as (ks ++ k ∷ []) (zs ++ y ∷ []) ≡ kept_as ks zs ++ shown k y ∷ []
kept_push [] [] k y len = refl
kept_push [] (z ∷ zs) k y len = absurd (omega arith)
kept_push (j ∷ ks) [] k y len = absurd (omega arith)
kept_push (j ∷ ks) (z ∷ zs) k y len = ap (λ l. shown j z ∷ l) (kept_push ks zs k y (omega arith))

abbrev pub name_and_type : Kept → Declared
name_and_type k = (k.name, k.ty)

pub kept_declared : (ks : List Kept) (zs : List ℤ) → length zs ≡ length ks → declared_in (kept_as ks zs) ≡ map name_and_type ks
kept_declared [] zs len = refl
kept_declared (k ∷ ks) [] len = absurd (omega arith)
kept_declared (k ∷ ks) (z ∷ zs) len = ap (λ ds. name_and_type k ∷ ds) (kept_declared ks zs (omega arith))

none_is : (o : Option Value) → is_none o ≡ true → o ≡ None
none_is None h = refl
none_is (Some v) h = absurd (false≢true h)

pub none_so : (o : Option Value) (b : Bool) → is_some o ≡ not b → b ≡ true → is_none o ≡ true
none_so None b h t = refl
none_so (Some v) b h t = absurd (true≢false (h ∙ ap not t))

-- where each word is what its variable holds, that is all that is shown
pub plain_held : (ks : List Kept) (zs : List ℤ) → all_plain ks ≡ true → length zs ≡ length ks → kept_as ks zs ≡ held (map name_and_type ks) zs
plain_held [] zs h len = refl
plain_held (k ∷ ks) [] h len = absurd (omega arith)
plain_held (k ∷ ks) (z ∷ zs) h len =
    let parts = both_true (is_none k.odd) (all_plain ks) h in
    let odd = none_is k.odd parts.0 in
    λ i. (record { name = k.name; ty = k.ty; value = unwrap_or (odd i) (value_of_word k.ty z) }) ∷ plain_held ks zs parts.1 (omega arith) i

pub plain_at : (ks : List Kept) (i : ℕ) (k : Kept) → all_plain ks ≡ true → slice_get ks i ≡ Some k → k.odd ≡ None
plain_at [] i k h at = absurd cc
plain_at (j ∷ ks) zero k h at = let same : j ≡ k = cc in ap (λ (x : Kept). x.odd) (sym same) ∙ none_is j.odd (both_true (is_none j.odd) (all_plain ks) h).0
plain_at (j ∷ ks) (suc i) k h at = plain_at ks i k (both_true (is_none j.odd) (all_plain ks) h).1 at

pub plain_push : (ks : List Kept) (k : Kept) → all_plain ks ≡ true → is_none k.odd ≡ true → all_plain (ks ++ k ∷ []) ≡ true
plain_push [] k h g = both (is_none k.odd) true g refl
plain_push (j ∷ ks) k h g =
    let parts = both_true (is_none j.odd) (all_plain ks) h in
    both (is_none j.odd) (all_plain (ks ++ k ∷ [])) parts.0 (plain_push ks k parts.1 g)

pub kept_within : (ks : List Kept) (zs : List ℤ) (xs : List Slot) (i : ℕ) → length zs ≡ length ks → kept_as ks zs ≡ xs → i < length xs → i < length ks
kept_within ks zs xs i len is within =
    let same = kept_length ks zs len in
    let seen : length (kept_as ks zs) ≡ length xs = ap (λ (l : List Slot). length l) is in
    omega arith

-- ---- Names

-- the variable of a name has the same index in both
pub kept_index : (n : Name) (ks : List Kept) (zs : List ℤ) → length zs ≡ length ks → position (λ k. same_name n k.name) ks ≡ index_of n (kept_as ks zs)
kept_index n [] zs len = refl
kept_index n (k ∷ ks) [] len = absurd (omega arith)
kept_index n (k ∷ ks) (z ∷ zs) len =
    position-cons (λ j. same_name n j.name) k ks
    ∙ ap (λ o. cond (same_name n k.name) (Some 0) (option_map (λ i. suc i) o)) (kept_index n ks zs (omega arith))
    ∙ sym (position-cons (λ s. same_name n s.name) (shown k z) (kept_as ks zs))

pub kept_any : (n : Name) (ks : List Kept) (zs : List ℤ) → length zs ≡ length ks → list_any (λ k. same_name n k.name) ks ≡ list_any (λ s. same_name n s.name) (kept_as ks zs)
kept_any n [] zs len = refl
kept_any n (k ∷ ks) [] len = absurd (omega arith)
kept_any n (k ∷ ks) (z ∷ zs) len = ap (λ b. same_name n k.name || b) (kept_any n ks zs (omega arith))

pub kept_named : (n : Name) (ks : List Kept) (zs : List ℤ) (i : ℕ) (k : Kept) → length zs ≡ length ks → ¬ (Twice (names_of (kept_as ks zs))) → slice_get ks i ≡ Some k
    → same_name n k.name ≡ true → index_of n (kept_as ks zs) ≡ Some i
kept_named n ks zs i k len once at same = index_of_once (λ (s : Slot). s.name) n (kept_as ks zs) i (shown k (word_at zs i)) once (kept_at ks zs i k len at) same

-- ---- Values

-- a variable that is seen is the one that is kept
pub kept_is : (ks : List Kept) (zs : List ℤ) (i : ℕ) (k : Kept) (s : Slot) → length zs ≡ length ks → slice_get ks i ≡ Some k → slice_get (kept_as ks zs) i ≡ Some s → shown k (word_at zs i) ≡ s
kept_is ks zs i k s len at is =
    let seen = kept_at ks zs i k len at in
    cc

pub set_word : (ks : List Kept) (zs : List ℤ) (i : ℕ) (k : Kept) (s : Slot) (y : ℤ) (v : Value) → length zs ≡ length ks → all_plain ks ≡ true → slice_get ks i ≡ Some k
    → slice_get (kept_as ks zs) i ≡ Some s → value_of_word k.ty y ≡ v → kept_as ks (set zs i y) ≡ set (kept_as ks zs) i (record s { value = v })
set_word ks zs i k s y v len plain at is stands =
    let same : shown k (word_at zs i) ≡ s = kept_is ks zs i k s len at is in
    let odd : k.odd ≡ None = plain_at ks i k plain at in
    kept_set_word ks zs i k y len at
    ∙ ap (λ (o : Option Value). set (kept_as ks zs) i (record { name = k.name; ty = k.ty; value = unwrap_or o (value_of_word k.ty y) })) odd
    ∙ ap (λ (u : Value). set (kept_as ks zs) i (record { name = k.name; ty = k.ty; value = u })) stands
    ∙ ap (λ (t : Slot). set (kept_as ks zs) i (record t { value = v })) same

pub set_both : (ks : List Kept) (zs : List ℤ) (i : ℕ) (k : Kept) (s : Slot) (y : ℤ) (o : Option Value) (v : Value) → length zs ≡ length ks → slice_get ks i ≡ Some k
    → slice_get (kept_as ks zs) i ≡ Some s → unwrap_or o (value_of_word k.ty y) ≡ v → kept_as (set ks i (record k { odd = o })) (set zs i y) ≡ set (kept_as ks zs) i (record s { value = v })
set_both ks zs i k s y o v len at is stands =
    let same : shown k (word_at zs i) ≡ s = kept_is ks zs i k s len at is in
    kept_set_both ks zs i (record k { odd = o }) y len
    ∙ ap (λ (u : Value). set (kept_as ks zs) i (record { name = k.name; ty = k.ty; value = u })) stands
    ∙ ap (λ (t : Slot). set (kept_as ks zs) i (record t { value = v })) same

-- ---- All by words

-- the layout and the words say what the variables are
pub plain_layout : (ds : List Declared) (ks : List Kept) (zs : List ℤ) (xs : List Slot) → all_plain ks ≡ true → length zs ≡ length ks → kept_as ks zs ≡ xs → ds ≡ declared_in xs
    → (held ds zs ≡ xs) × (length zs ≡ length ds)
plain_layout ds ks zs xs plain len is layout =
    let same : ds ≡ map name_and_type ks = layout ∙ ap declared_in (sym is) ∙ kept_declared ks zs len in (
      ap (λ l. held l zs) same ∙ sym (plain_held ks zs plain len) ∙ is,
      len ∙ sym (map_length ks) ∙ ap (λ (l : List Declared). length l) (sym same),
    ) where
      map_length : (l : List Kept) → length (map name_and_type l) ≡ length l
      map_length [] = refl
      map_length (k ∷ l) = ap (λ n. suc n) (map_length l)

-- the same, after the words have changed
pub plain_after : (ds : List Declared) (ks : List Kept) (zs ys : List ℤ) → all_plain ks ≡ true → length zs ≡ length ks → length ys ≡ length zs → ds ≡ declared_in (kept_as ks zs)
    → (held ds ys ≡ kept_as ks ys) × (declared_in (kept_as ks ys) ≡ declared_in (kept_as ks zs))
plain_after ds ks zs ys plain len same layout =
    let before = kept_declared ks zs len in
    let after = kept_declared ks ys (same ∙ len) in (
      ap (λ l. held l ys) (layout ∙ before) ∙ sym (plain_held ks ys plain (same ∙ len)),
      after ∙ sym before,
    )

-- a run among variables is one among those that are the same
pub ran_there : (R : Running) (xs ys vs ws : List Slot) (m n : Meter) (e : End) → xs ≡ ys → vs ≡ ws → R (point xs m) e (point vs n) → R (point ys m) e (point ws n)
ran_there R xs ys vs ws m n e start end ran =
    let Starts : List Slot → Type 0 = λ l. R (point l m) e (point vs n) in
    let Ends : List Slot → Type 0 = λ l. R (point ys m) e (point l n) in
    subst Ends end (subst Starts start ran)

-- what was written is all that was to be written
pub written_back : (ys more : List ℤ) (n : ℕ) → length ys ≡ n → take n (ys ++ more) ≡ ys
written_back ys more n long =
    subst (λ (k : ℕ). take k (ys ++ more) ≡ ys) long (seam ys) where
      seam : (zs : List ℤ) → take (length zs) (zs ++ more) ≡ zs
      seam [] = refl
      seam (z ∷ zs) = ap (λ (l : List ℤ). z ∷ l) (seam zs)
