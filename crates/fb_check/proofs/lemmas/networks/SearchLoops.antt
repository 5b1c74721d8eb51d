-- Loops that look for an element that passes a test.
use Rattle.fb_types.proofs.Common.{◌≡◌, ℕ, suc, ◌<◌, ◌≤◌, ◌+◌, Bool, true, false, List, [], ◌∷◌, drop, get_or, length, Option, Some, None, refl, sym, ◌∙◌, ap, arith, option_map, position, slice_get, at_drop_all, at_drop_more, slice_get_read}
use Rattle.fb_types.proofs.lemmas.lists.Positions.{position-first, position-later}

-- ---- Where the loop is

-- at an element
pub at_element : {A : Type 0} (xs : List A) (i : ℕ) (x : A) → i < length xs → x ≡ get_or xs i x → slice_get xs i ≡ Some x
at_element xs i x within is = slice_get_read xs (length xs) i x refl within is

-- ---- The first element that passes a test

-- the index after this number of elements
abbrev pub following : ℕ → Option ℕ → Option ℕ
following k o = option_map (λ i. i + k) o

pub at_first : (o : Option ℕ) → o ≡ following 0 o
at_first None = refl
at_first (Some i) = ap (λ (n : ℕ). Some n) (omega arith)

one_on : (k : ℕ) (o : Option ℕ) → following k (option_map (λ i. i + 1) o) ≡ following (k + 1) o
one_on k None = refl
one_on k (Some i) = ap (λ (n : ℕ). Some n) (omega arith)

at_none : (k : ℕ) → following k (Some 0) ≡ Some k
at_none k = ap (λ (n : ℕ). Some n) (omega arith)

-- what the loop has before it
here :
    {A : Type 0} (p : A → Bool) (xs : List A) (k : ℕ) (x : A) → k < length xs → x ≡ get_or xs k x → position p (drop k xs) ≡ position p (x ∷ drop (k + 1) xs)
here {A} p xs k x within is = at_drop_more (position p) xs k x within ∙ ap (λ (y : A). position p (y ∷ drop (k + 1) xs)) (sym is)

pub found_first :
    {A : Type 0} (p : A → Bool) (xs : List A) (k : ℕ) (x : A) → k < length xs → x ≡ get_or xs k x → position p xs ≡ following k (position p (drop k xs))
    → p x ≡ true → Some k ≡ position p xs
found_first p xs k x within is before passes =
    sym (before ∙ ap (following k) (here p xs k x within is ∙ position-first p x (drop (k + 1) xs) passes) ∙ at_none k)

pub not_first :
    {A : Type 0} (p : A → Bool) (xs : List A) (k : ℕ) (x : A) → k < length xs → x ≡ get_or xs k x → position p xs ≡ following k (position p (drop k xs))
    → p x ≡ false → position p xs ≡ following (k + 1) (position p (drop (k + 1) xs))
not_first p xs k x within is before fails =
    before ∙ ap (following k) (here p xs k x within is ∙ position-later p x (drop (k + 1) xs) fails) ∙ one_on k (position p (drop (k + 1) xs))

pub found_none :
    {A : Type 0} (p : A → Bool) (xs : List A) (k : ℕ) → length xs ≤ k → position p xs ≡ following k (position p (drop k xs)) → None ≡ position p xs
found_none p xs k past before = sym (before ∙ ap (following k) (at_drop_all (position p) xs k past))

pub position_at : {X : Type 0} (p : X → Bool) (xs : List X) (i : ℕ) → position p xs ≡ Some i → (x : X) × (slice_get xs i ≡ Some x) × (p x ≡ true)
position_at p [] i h = absurd (cc)
position_at {X} p (x ∷ xs) i h =
    elim (p x) as (λ b. p x ≡ b → (y : X) × (slice_get (x ∷ xs) i ≡ Some y) × (p y ≡ true)) [
      | true ↦ λ e.
          let g : Some 0 ≡ Some i = sym (position-first p x xs e) ∙ h in
          let z : 0 ≡ i = cc in
          (x, ap (slice_get (x ∷ xs)) (sym z), e)
      | false ↦ λ e.
          (elim (position p xs) as (λ o. position p xs ≡ o → option_map (λ i. i + 1) o ≡ Some i → (y : X) × (slice_get (x ∷ xs) i ≡ Some y) × (p y ≡ true)) [
            | None ↦ λ o g. absurd (cc)
            | Some j ↦ λ o g.
                let at = position_at p xs j o in
                let k : i ≡ suc j = let next : j + 1 ≡ i = cc in omega arith in
                (at.0, ap (slice_get (x ∷ xs)) k ∙ at.1, at.2)
          ] refl (sym (position-later p x xs e) ∙ h))
    ] refl
