-- Parts of a list, and what holds of each element at its index.
use Rattle.fb_types.proofs.Common.{◌≡◌, ◌⊎◌, ℕ, zero, suc, ◌+◌, List, [], ◌∷◌, ◌++◌, length, Some, refl, ◌∙◌, ap, subst, inl, inr, arith, slice_get}
use Rattle.fb_types.proofs.lemmas.lists.ByIndex.{slice_get-append_left}

-- ---- Elements of lists put together

pub at_right : {A : Type 0} (xs ys : List A) (j : ℕ) (x : A) → slice_get ys j ≡ Some x → slice_get (xs ++ ys) (length xs + j) ≡ Some x
at_right {A} [] ys j x h = let e : 0 + j ≡ j = omega arith in ap (slice_get ys) e ∙ h
at_right {A} (y ∷ xs) ys j x h =
    let e : suc (length xs) + j ≡ suc (length xs + j) = omega arith in ap (slice_get (y ∷ (xs ++ ys))) e ∙ at_right xs ys j x h

pub at_cases :
    {A : Type 0} (xs ys : List A) (j : ℕ) (x : A) → slice_get (xs ++ ys) j ≡ Some x
    → (slice_get xs j ≡ Some x) ⊎ ((k : ℕ) × (j ≡ length xs + k) × (slice_get ys k ≡ Some x))
at_cases [] ys j x h = inr (j, (let e : j ≡ 0 + j = omega arith in e), h)
at_cases (y ∷ xs) ys zero x h = inl h
at_cases (y ∷ xs) ys (suc j) x h =
    elim (at_cases xs ys j x h) [
      | inl l ↦ inl l
      | inr r ↦ inr (r.0, (let f : j ≡ length xs + r.0 = r.1 in let e : suc j ≡ suc (length xs) + r.0 = omega (arith, f) in e), r.2)
    ]

-- ---- What holds of each element

-- P holds of each element and its index, starting at `first`
pub record AreEach {A : Type 0} (P : ℕ → A → Type 0) (first : ℕ) (xs : List A) : Type 0 where
  pub at : (j : ℕ) (x : A) → slice_get xs j ≡ Some x → P (first + j) x

pub each-nil : {A : Type 0} (P : ℕ → A → Type 0) (first : ℕ) → AreEach P first []
each-nil P first = record { at = λ j x h. absurd (cc) }

pub each-head : {A : Type 0} (P : ℕ → A → Type 0) (first : ℕ) (x : A) (xs : List A) → AreEach P first (x ∷ xs) → P first x
each-head {A} P first x xs e = let z : first + 0 ≡ first = omega arith in subst (λ n. P n x) z (e.at 0 x refl)

pub each-tail : {A : Type 0} (P : ℕ → A → Type 0) (first : ℕ) (x : A) (xs : List A) → AreEach P first (x ∷ xs) → AreEach P (first + 1) xs
each-tail {A} P first x xs e = record {
  at = λ j y h. let z : first + suc j ≡ first + 1 + j = omega arith in subst (λ n. P n y) z (e.at (suc j) y h);
}

pub each-left : {A : Type 0} (P : ℕ → A → Type 0) (first : ℕ) (xs ys : List A) → AreEach P first (xs ++ ys) → AreEach P first xs
each-left P first xs ys e = record { at = λ j x h. e.at j x (slice_get-append_left xs ys j x h) }

pub each-right : {A : Type 0} (P : ℕ → A → Type 0) (first : ℕ) (xs ys : List A) → AreEach P first (xs ++ ys) → AreEach P (first + length xs) ys
each-right {A} P first xs ys e = record {
  at = λ j x h.
      let z : first + (length xs + j) ≡ first + length xs + j = omega arith in subst (λ n. P n x) z (e.at (length xs + j) x (at_right xs ys j x h));
}

pub each-append :
    {A : Type 0} (P : ℕ → A → Type 0) (first : ℕ) (xs ys : List A) → AreEach P first xs → AreEach P (first + length xs) ys → AreEach P first (xs ++ ys)
each-append {A} P first xs ys e f = record {
  at = λ j x h.
      elim (at_cases xs ys j x h) [
        | inl l ↦ e.at j x l
        | inr r ↦
            let at : j ≡ length xs + r.0 = r.1 in
            let z : first + length xs + r.0 ≡ first + j = omega (arith, at) in
            subst (λ n. P n x) z (f.at r.0 x r.2)
      ];
}

pub each-cons : {A : Type 0} (P : ℕ → A → Type 0) (first : ℕ) (x : A) (xs : List A) → P first x → AreEach P (first + 1) xs → AreEach P first (x ∷ xs)
each-cons {A} P first x xs p e = record { at = at P first x xs p e }
  where
    at : {A : Type 0} (P : ℕ → A → Type 0) (first : ℕ) (x : A) (xs : List A) → P first x → AreEach P (first + 1) xs
        → (j : ℕ) (y : A) → slice_get (x ∷ xs) j ≡ Some y → P (first + j) y
    at {A} P first x xs p e zero y h =
        let same : x ≡ y = cc in
        let z : first ≡ first + 0 = omega arith in
        subst (λ n. P n y) z (subst (λ (y : A). P first y) same p)
    at {A} P first x xs p e (suc j) y h =
        let z : first + 1 + j ≡ first + suc j = omega arith in subst (λ n. P n y) z (e.at j y h)

-- ---- Parts

-- the part is in the whole from an index on
abbrev pub IsPart : {A : Type 0} → List A → ℕ → List A → Type 0
IsPart whole first part = AreEach (λ k x. slice_get whole k ≡ Some x) first part

pub part_whole : {A : Type 0} (xs : List A) → IsPart xs 0 xs
part_whole xs = record { at = λ j x h. let z : 0 + j ≡ j = omega arith in ap (slice_get xs) z ∙ h }
