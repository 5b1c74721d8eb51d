-- The first index at which a test passes, and the element there.
use Rattle.fb_types.proofs.Common.{◌≡◌, ℕ, zero, suc, ◌+◌, Bool, true, false, cond, not, ◌||◌, List, [], ◌∷◌, ◌++◌, length, map, Some, None, Contains, refl, sym, ◌∙◌, ap, subst, inl, inr, arith, position, slice_get, option_map, option_and_then, nat_lt, is_some, list_any, nat_tests, false_from_ne_true, true≢false, named, Name, same_name, Twice}
use Rattle.std.specs.List.{prefix_len}
use Rattle.fb_types.proofs.lemmas.lists.Elements.{Contains-here, Contains-there}
use Rattle.fb_types.proofs.lemmas.names.NameLaws.{same_name-Decides, same_from_same_name, same_name-flip}

-- ---- `position` by recursion

nat_lt-zero : (n : ℕ) → nat_lt 0 (suc n) ≡ true
nat_lt-zero n = grind (arith, nat_tests)

nat_lt-suc : (m n : ℕ) → nat_lt (1 + m) (suc n) ≡ nat_lt m n
nat_lt-suc m n = grind (arith, nat_tests)

one_more : (m : ℕ) → 1 + m ≡ m + 1
one_more m = omega arith

pub position-cons : {X : Type 0} (p : X → Bool) (x : X) (xs : List X) → position p (x ∷ xs) ≡ cond (p x) (Some 0) (option_map (λ i. i + 1) (position p xs))
position-cons p x xs =
    let n = prefix_len (λ y. not (p y)) xs in
    elim (p x) as (λ b. cond (nat_lt (cond (not b) (1 + n) 0) (suc (length xs))) (Some (cond (not b) (1 + n) 0)) None
    ≡ cond b (Some 0) (option_map (λ i. i + 1) (cond (nat_lt n (length xs)) (Some n) None))) [
      | true ↦ rw (nat_lt-zero (length xs)) refl
      | false ↦ rw (nat_lt-suc n (length xs))
          (elim (nat_lt n (length xs)) as (λ b. cond b (Some (1 + n)) None ≡ option_map (λ i. i + 1) (cond b (Some n) None)) [
            | true ↦ ap (λ m. Some m) (one_more n)
            | false ↦ refl
          ])
    ]

-- the same, if the test of the first element is known
pub position-first : {X : Type 0} (p : X → Bool) (x : X) (xs : List X) → p x ≡ true → position p (x ∷ xs) ≡ Some 0
position-first p x xs h =
    position-cons p x xs ∙ ap (λ b. cond b (Some 0) (option_map (λ i. i + 1) (position p xs))) h

pub position-later : {X : Type 0} (p : X → Bool) (x : X) (xs : List X) → p x ≡ false → position p (x ∷ xs) ≡ option_map (λ i. i + 1) (position p xs)
position-later p x xs h =
    position-cons p x xs ∙ ap (λ b. cond b (Some 0) (option_map (λ i. i + 1) (position p xs))) h

-- ---- Where it is

pub is_some-position : {X : Type 0} (p : X → Bool) (xs : List X) → is_some (position p xs) ≡ list_any p xs
is_some-position p [] = refl
is_some-position p (x ∷ xs) =
    ap is_some (position-cons p x xs)
    ∙ (elim (p x) as (λ b. is_some (cond b (Some 0) (option_map (λ i. i + 1) (position p xs))) ≡ (b || list_any p xs)) [
      | true ↦ refl
      | false ↦
          (elim (position p xs) as (λ o. is_some (option_map (λ i. i + 1) o) ≡ is_some o) [ None ↦ refl | Some i ↦ refl ])
          ∙ is_some-position p xs
    ])

pub position-append_old : {X : Type 0} (p : X → Bool) (xs ys : List X) (i : ℕ) → position p xs ≡ Some i → position p (xs ++ ys) ≡ Some i
position-append_old p [] ys i h = absurd (cc)
position-append_old p (x ∷ xs) ys i h =
    elim (p x) as (λ b. p x ≡ b → position p (x ∷ (xs ++ ys)) ≡ Some i) [
      | true ↦ λ e. position-first p x (xs ++ ys) e ∙ sym (position-first p x xs e) ∙ h
      | false ↦ λ e. position-later p x (xs ++ ys) e
          ∙ (elim (position p xs) as (λ o. position p xs ≡ o → option_map (λ i. i + 1) (position p (xs ++ ys)) ≡ option_map (λ i. i + 1) o) [
            | None ↦ λ n. absurd (let g = sym h ∙ position-later p x xs e ∙ ap (option_map (λ i. i + 1)) n in cc)
            | Some j ↦ λ s. ap (option_map (λ i. i + 1)) (position-append_old p xs ys j s)
          ] refl)
          ∙ sym (position-later p x xs e) ∙ h
    ] refl

pub position-push_new : {X : Type 0} (p : X → Bool) (xs : List X) (y : X) → list_any p xs ≡ false → position p (xs ++ y ∷ []) ≡ cond (p y) (Some (length xs)) None
position-push_new p [] y h = position-cons p y []
position-push_new p (x ∷ xs) y h =
    elim (p x) as (λ b. p x ≡ b → (b || list_any p xs) ≡ false → position p (x ∷ (xs ++ y ∷ [])) ≡ cond (p y) (Some (suc (length xs))) None) [
      | true ↦ λ e g. absurd (true≢false g)
      | false ↦ λ e g. position-later p x (xs ++ y ∷ []) e ∙ ap (option_map (λ i. i + 1)) (position-push_new p xs y g)
          ∙ (elim (p y) as (λ b. option_map (λ i. i + 1) (cond b (Some (length xs)) None) ≡ cond b (Some (suc (length xs))) None) [
            | true ↦ let e : length xs + 1 ≡ suc (length xs) = omega arith in ap (λ n. Some n) e
            | false ↦ refl
          ])
    ] refl h

-- ---- An element by its name

-- the element with a name is at the index of the name
pub named-position :
    {A : Type 0} (f : A → Name) (n : Name) (xs : List A) → named f n xs ≡ option_and_then (slice_get xs) (position (same_name n) (map f xs))
named-position f n [] = refl
named-position f n (x ∷ xs) =
    elim (same_name n (f x)) as (λ b. same_name n (f x) ≡ b → cond (same_name (f x) n) (Some x) (named f n xs) ≡ option_and_then (slice_get (x ∷ xs)) (position (same_name n) (map f (x ∷ xs)))) [
      | true ↦ λ e. rw (same_name-flip (f x) n ∙ e, position-first (same_name n) (f x) (map f xs) e) refl
      | false ↦ λ e. rw (same_name-flip (f x) n ∙ e, position-later (same_name n) (f x) (map f xs) e)
          (named-position f n xs
          ∙ (elim (position (same_name n) (map f xs)) as (λ o. option_and_then (slice_get xs) o ≡ option_and_then (slice_get (x ∷ xs)) (option_map (λ i. i + 1) o)) [
            | None ↦ refl
            | Some i ↦ let e : i + 1 ≡ suc i = omega arith in ap (λ n. slice_get (x ∷ xs) n) (sym e)
          ]))
    ] refl

-- ---- Names that differ

pub slice_get-Contains : {A : Type 0} (f : A → Name) (xs : List A) (i : ℕ) (x : A) → slice_get xs i ≡ Some x → Contains (map f xs) (f x)
slice_get-Contains f [] i x h = absurd (cc)
slice_get-Contains {A} f (y ∷ ys) zero x h =
    let e : y ≡ x = cc in subst (λ (z : A). Contains (f y ∷ map f ys) (f z)) e (Contains-here (f y) (map f ys))
slice_get-Contains f (y ∷ ys) (suc i) x h = Contains-there (f y) (map f ys) (f x) (slice_get-Contains f ys i x h)

-- each name is first at its own index
pub position_of_once :
    {A : Type 0} (f : A → Name) (xs : List A) (i : ℕ) (x : A) → ¬ (Twice (map f xs)) → slice_get xs i ≡ Some x
    → position (same_name (f x)) (map f xs) ≡ Some i
position_of_once f [] i x once h = absurd (cc)
position_of_once f (y ∷ ys) zero x once h =
    let e : y ≡ x = cc in
    position-first (same_name (f x)) (f y) (map f ys) ((same_name-Decides (f x) (f y)).1 (ap f (sym e)))
position_of_once {A} f (y ∷ ys) (suc i) x once h =
    let apart : same_name (f x) (f y) ≡ false =
    false_from_ne_true (same_name (f x) (f y))
    (λ t. once (inl (let P : Name → Type 0 = λ n. Contains (map f ys) n in subst P (same_from_same_name (f x) (f y) t) (slice_get-Contains f ys i x h)))) in
    position-later (same_name (f x)) (f y) (map f ys) apart
    ∙ ap (option_map (λ i. i + 1)) (position_of_once f ys i x (λ t. once (inr t)) h)
    ∙ (let e : i + 1 ≡ suc i = omega arith in ap (λ n. Some n) e)

pub named_of_once :
    {A : Type 0} (f : A → Name) (xs : List A) (i : ℕ) (x : A) → ¬ (Twice (map f xs)) → slice_get xs i ≡ Some x → named f (f x) xs ≡ Some x
named_of_once f xs i x once h =
    named-position f (f x) xs ∙ ap (option_and_then (slice_get xs)) (position_of_once f xs i x once h) ∙ h

-- the element at the index of a name has the name
pub position_is :
    {A : Type 0} (f : A → Name) (n : Name) (xs : List A) (i : ℕ) → position (same_name n) (map f xs) ≡ Some i
    → (x : A) × (slice_get xs i ≡ Some x) × (f x ≡ n)
position_is f n [] i h = absurd (cc)
position_is {A} f n (x ∷ xs) i h =
    elim (same_name n (f x)) as (λ b. same_name n (f x) ≡ b → (y : A) × (slice_get (x ∷ xs) i ≡ Some y) × (f y ≡ n)) [
      | true ↦ λ e.
          let g : Some 0 ≡ Some i = sym (position-first (same_name n) (f x) (map f xs) e) ∙ h in
          let z : 0 ≡ i = cc in
          (x, ap (slice_get (x ∷ xs)) (sym z), sym (same_from_same_name n (f x) e))
      | false ↦ λ e.
          (elim (position (same_name n) (map f xs)) as (λ o. position (same_name n) (map f xs) ≡ o → option_map (λ i. i + 1) o ≡ Some i → (y : A) × (slice_get (x ∷ xs) i ≡ Some y) × (f y ≡ n)) [
            | None ↦ λ o g. absurd (cc)
            | Some j ↦ λ o g.
                let at = position_is f n xs j o in
                let k : i ≡ suc j = let g' : j + 1 ≡ i = cc in omega arith in
                (at.0, ap (slice_get (x ∷ xs)) k ∙ at.1, at.2)
          ] refl (sym (position-later (same_name n) (f x) (map f xs) e) ∙ h))
    ] refl
