-- The first index at which a name is.
use Rattle.fb_types.proofs.Common.{◌≡◌, ℕ, zero, suc, ◌+◌, Bool, true, false, cond, not, List, [], ◌∷◌, length, map, Some, None, Contains, refl, sym, ◌∙◌, ap, subst, inl, inr, arith, position, slice_get, option_map, option_and_then, nat_lt, nat_tests, false_from_ne_true, Name, same_name, named, Twice}
use Rattle.std.specs.List.{prefix_len}
use Rattle.fb_types.proofs.lemmas.lists.Positions.{position-first, slice_get-Contains}
use Rattle.fb_types.proofs.lemmas.names.NameLaws.{same_from_same_name, same_name-flip}

-- ---- `position` by recursion

nat_lt-zero : (n : ℕ) → nat_lt 0 (suc n) ≡ true
nat_lt-zero n = grind (arith, nat_tests)

nat_lt-suc : (m n : ℕ) → nat_lt (1 + m) (suc n) ≡ nat_lt m n
nat_lt-suc m n = grind (arith, nat_tests)

pub position-cons : {X : Type 0} (p : X → Bool) (x : X) (xs : List X) → position p (x ∷ xs) ≡ cond (p x) (Some 0) (option_map (λ i. suc i) (position p xs))
position-cons p x xs =
    let n = prefix_len (λ y. not (p y)) xs in
    elim (p x) as (λ b. cond (nat_lt (cond (not b) (1 + n) 0) (suc (length xs))) (Some (cond (not b) (1 + n) 0)) None
    ≡ cond b (Some 0) (option_map (λ i. suc i) (cond (nat_lt n (length xs)) (Some n) None))) [
      | true ↦ rw (nat_lt-zero (length xs)) refl
      | false ↦ rw (nat_lt-suc n (length xs))
          (elim (nat_lt n (length xs)) as (λ b. cond b (Some (1 + n)) None ≡ option_map (λ i. suc i) (cond b (Some n) None)) [
            | true ↦ let e : 1 + n ≡ suc n = omega arith in ap (λ m. Some m) e
            | false ↦ refl
          ])
    ]

pub position-later : {X : Type 0} (p : X → Bool) (x : X) (xs : List X) → p x ≡ false → position p (x ∷ xs) ≡ option_map (λ i. suc i) (position p xs)
position-later p x xs h =
    position-cons p x xs ∙ ap (λ b. cond b (Some 0) (option_map (λ i. suc i) (position p xs))) h

-- ---- Names

-- the element with a name is at the index of the name
pub named_at_index :
    {A : Type 0} (f : A → Name) (n : Name) (xs : List A) → named f n xs ≡ option_and_then (slice_get xs) (position (λ x. same_name n (f x)) xs)
named_at_index f n [] = refl
named_at_index f n (x ∷ xs) =
    elim (same_name n (f x)) as (λ b. same_name n (f x) ≡ b → cond (same_name (f x) n) (Some x) (named f n xs) ≡ option_and_then (slice_get (x ∷ xs)) (position (λ y. same_name n (f y)) (x ∷ xs))) [
      | true ↦ λ e. rw (same_name-flip (f x) n ∙ e, position-first (λ y. same_name n (f y)) x xs e) refl
      | false ↦ λ e. rw (same_name-flip (f x) n ∙ e, position-later (λ y. same_name n (f y)) x xs e)
          (named_at_index f n xs
          ∙ (elim (position (λ y. same_name n (f y)) xs) as (λ o. option_and_then (slice_get xs) o ≡ option_and_then (slice_get (x ∷ xs)) (option_map (λ i. suc i) o)) [
            | None ↦ refl
            | Some i ↦ refl
          ]))
    ] refl

-- ---- Names that differ

-- each name is first at its own index
pub index_of_once :
    {A : Type 0} (f : A → Name) (n : Name) (xs : List A) (i : ℕ) (x : A) → ¬ (Twice (map f xs)) → slice_get xs i ≡ Some x → same_name n (f x) ≡ true
    → position (λ y. same_name n (f y)) xs ≡ Some i
index_of_once f n [] i x once h same = absurd (cc)
index_of_once {A} f n (y ∷ ys) zero x once h same =
    let e : x ≡ y = cc in
    position-first (λ z. same_name n (f z)) y ys (subst (λ (z : A). same_name n (f z) ≡ true) e same)
index_of_once {A} f n (y ∷ ys) (suc i) x once h same =
    let apart : same_name n (f y) ≡ false =
    false_from_ne_true (same_name n (f y))
    (λ t.
    let e : f x ≡ f y = sym (same_from_same_name n (f x) same) ∙ same_from_same_name n (f y) t in
    once (inl (let P : Name → Type 0 = λ k. Contains (map f ys) k in subst P e (slice_get-Contains f ys i x h)))) in
    position-later (λ z. same_name n (f z)) y ys apart
    ∙ ap (option_map (λ i. suc i)) (index_of_once f n ys i x (λ t. once (inr t)) h same)
