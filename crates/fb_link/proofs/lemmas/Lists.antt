-- Lists by the indexes of their elements.
use Rattle.fb_types.proofs.Common.{◌≡◌, ◌≢◌, ℕ, ◌<◌, All, List, [], ◌∷◌, ◌++◌, ◌-◌, length, replicate, sym, ap, subst, ◌∙◌, Some, ⊎_elim, get_or, get_or-set_same, get_or-set_other, arith, slice_get, slice_set, cases_eq, length-set, take_all, All-head, All-tail, slice_get_within, slice_get-get_or, get_or_from_slice_get}
use Rattle.std.specs.Prelude.{slice_range}
use Rattle.std.proofs.lemmas.List.{get_or-replicate, length-replicate}

pub set_here : {A : Type 0} (xs : List A) (i : ℕ) (x y : A) → i < length xs → slice_get (slice_set xs i x) i ≡ Some y → x ≡ y
set_here xs i x y within read =
    let same : get_or (slice_set xs i x) i y ≡ x = get_or-set_same xs i x y within in
    sym same ∙ get_or_from_slice_get (slice_set xs i x) i y y read

pub set_apart : {A : Type 0} (xs : List A) (i j : ℕ) (x y : A) → j ≢ i → slice_get (slice_set xs i x) j ≡ Some y → slice_get xs j ≡ Some y
set_apart xs i j x y apart read =
    let counted : length (slice_set xs i x) ≡ length xs = length-set xs i x in
    let inside : j < length (slice_set xs i x) = slice_get_within (slice_set xs i x) j y read in
    let within : j < length xs = omega (arith, inside, counted) in
    let same : get_or (slice_set xs i x) j y ≡ get_or xs j y = get_or-set_other xs i j x y apart in
    slice_get-get_or xs j y within ∙ ap Some (sym same ∙ get_or_from_slice_get (slice_set xs i x) j y y read)

-- what holds of each element holds if it holds of the one that was set
pub set_each : {A : Type 0} (P : ℕ → A → Type 0) (xs : List A) (i : ℕ) (x : A) → i < length xs
    → P i x → ((j : ℕ) (y : A) → j ≢ i → slice_get xs j ≡ Some y → P j y)
    → (j : ℕ) (y : A) → slice_get (slice_set xs i x) j ≡ Some y → P j y
set_each {A} P xs i x within here apart j y read = ⊎_elim same other (cases_eq j i)
  where
    same : j ≡ i → P j y
    same e =
        let at_i : slice_get (slice_set xs i x) i ≡ Some y = subst (λ (n : ℕ). slice_get (slice_set xs i x) n ≡ Some y) e read in
        subst (λ (n : ℕ). P n y) (sym e) (subst (λ (z : A). P i z) (set_here xs i x y within at_i) here)

    other : j ≢ i → P j y
    other n = apart j y n (set_apart xs i j x y n read)

pub of_replicate : {A : Type 0} (n r : ℕ) (x y : A) → slice_get (replicate n x) r ≡ Some y → x ≡ y
of_replicate n r x y is =
    let within = slice_get_within (replicate n x) r y is in
    let counted = length-replicate n x in
    sym (get_or-replicate n r x y (omega (arith, within, counted))) ∙ get_or_from_slice_get (replicate n x) r y y is

pub slice_all : {A : Type 0} (xs : List A) (n : ℕ) → n ≡ length xs → slice_range xs 0 n ≡ xs
slice_all xs n is = take_all (n - 0) xs (omega (arith, is))

pub next_of : {A : Type 0} (P : A → Type 0) (xs ys : List A) (y : A) → All P (xs ++ y ∷ ys) → P y
next_of P [] ys y h = All-head P y ys h
next_of P (x ∷ xs) ys y h = next_of P xs ys y (All-tail P x (xs ++ y ∷ ys) h)
