-- The results of a function for each element of a list, one element at a time.
use Rattle.fb_types.proofs.Common.{◌≡◌, ℕ, zero, suc, ◌<◌, ◌≤◌, ◌+◌, ◌&&◌, List, [], ◌∷◌, ◌++◌, length, take, get_or, Option, Some, None, refl, sym, ◌∙◌, ap, slice_get, option_map, option_and_then, is_some, list_all, take_more, take_all}
use Rattle.fb_check_names.specs.Numbers.{each_or_none}

abbrev pub put_first : {B : Type 0} → B → Option (List B) → Option (List B)
put_first y o = option_map (λ ys. y ∷ ys) o

pub each_push :
    {A B : Type 0} (f : A → Option B) (xs : List A) (x : A) (ys : List B) (y : B) → each_or_none f xs ≡ Some ys → f x ≡ Some y
    → each_or_none f (xs ++ x ∷ []) ≡ Some (ys ++ y ∷ [])
each_push f [] x ys y h g =
    let none : [] ≡ ys = cc in
    ap (option_and_then (λ y. put_first y (Some []))) g ∙ ap (λ zs. Some (zs ++ y ∷ [])) none
each_push {A} {B} f (z ∷ zs) x ys y h g =
    elim (f z) as (λ o. option_and_then (λ w. put_first w (each_or_none f zs)) o ≡ Some ys → option_and_then (λ w. put_first w (each_or_none f (zs ++ x ∷ []))) o ≡ Some (ys ++ y ∷ [])) [
      | None ↦ λ h. absurd (cc)
      | Some w ↦ λ h.
          (elim (each_or_none f zs) as (λ o. each_or_none f zs ≡ o → put_first w o ≡ Some ys → put_first w (each_or_none f (zs ++ x ∷ [])) ≡ Some (ys ++ y ∷ [])) [
            | None ↦ λ e h. absurd (cc)
            | Some ws ↦ λ e h.
                let is : w ∷ ws ≡ ys = cc in
                ap (put_first w) (each_push f zs x ws y e g) ∙ ap (λ (vs : List B). Some (vs ++ y ∷ [])) is
          ] refl h)
    ] h

-- the step of a loop
pub each_more :
    {A B : Type 0} (f : A → Option B) (xs : List A) (i : ℕ) (x : A) (ys zs : List B) (y : B) → i < length xs → x ≡ get_or xs i x → f x ≡ Some y
    → each_or_none f (take i xs) ≡ Some ys → zs ≡ ys ++ y ∷ [] → each_or_none f (take (i + 1) xs) ≡ Some zs
each_more {A} f xs i x ys zs y h e g so_far grown =
    ap (each_or_none f) (take_more xs i x h ∙ ap (λ (z : A). take i xs ++ z ∷ []) (sym e))
    ∙ each_push f (take i xs) x ys y so_far g ∙ ap (λ ws. Some ws) (sym grown)

-- the end of a loop
pub each_all : {A B : Type 0} (f : A → Option B) (xs : List A) (i : ℕ) (ys : List B) → length xs ≤ i → each_or_none f (take i xs) ≡ Some ys → Some ys ≡ each_or_none f xs
each_all f xs i ys h so_far = sym so_far ∙ ap (each_or_none f) (take_all i xs h)

-- ---- All of a list

pub is_some-each : {A B : Type 0} (f : A → Option B) (xs : List A) → is_some (each_or_none f xs) ≡ list_all (λ x. is_some (f x)) xs
is_some-each f [] = refl
is_some-each f (x ∷ xs) =
    elim (f x) as (λ o. is_some (option_and_then (λ y. put_first y (each_or_none f xs)) o) ≡ (is_some o && list_all (λ x. is_some (f x)) xs)) [
      | None ↦ refl
      | Some y ↦ (elim (each_or_none f xs) as (λ o. is_some (put_first y o) ≡ is_some o) [ None ↦ refl | Some ys ↦ refl ]) ∙ is_some-each f xs
    ]

-- the first of all, and the others
pub each_parts :
    {A B : Type 0} (f : A → Option B) (x : A) (xs : List A) (zs : List B) → each_or_none f (x ∷ xs) ≡ Some zs
    → (y : B) × (ys : List B) × (f x ≡ Some y) × (each_or_none f xs ≡ Some ys) × (zs ≡ y ∷ ys)
each_parts {A} {B} f x xs zs h =
    elim (f x) as (λ o. f x ≡ o → option_and_then (λ y. put_first y (each_or_none f xs)) o ≡ Some zs → (y : B) × (ys : List B) × (f x ≡ Some y) × (each_or_none f xs ≡ Some ys) × (zs ≡ y ∷ ys)) [
      | None ↦ λ e h. absurd (cc)
      | Some y ↦ λ e h.
          (elim (each_or_none f xs) as (λ o. each_or_none f xs ≡ o → put_first y o ≡ Some zs → (y : B) × (ys : List B) × (f x ≡ Some y) × (each_or_none f xs ≡ Some ys) × (zs ≡ y ∷ ys)) [
            | None ↦ λ e h. absurd (cc)
            | Some ys ↦ λ g h. let is : zs ≡ y ∷ ys = cc in (y, ys, e, g, is)
          ] refl h)
    ] refl h

pub each-length : {A B : Type 0} (f : A → Option B) (xs : List A) (zs : List B) → each_or_none f xs ≡ Some zs → length zs ≡ length xs
each-length f [] zs h = let none : [] ≡ zs = cc in ap length (sym none)
each-length f (x ∷ xs) zs h =
    let p = each_parts f x xs zs h in ap length p.4 ∙ ap suc (each-length f xs p.1 p.3)

-- the element from which one result was made
pub each_from :
    {A B : Type 0} (f : A → Option B) (xs : List A) (zs : List B) (i : ℕ) (z : B) → each_or_none f xs ≡ Some zs → slice_get zs i ≡ Some z
    → (x : A) × (slice_get xs i ≡ Some x) × (f x ≡ Some z)
each_from f [] zs i z h g =
    let none : [] ≡ zs = cc in let empty = ap (λ (ys : List _). slice_get ys i) none ∙ g in absurd (cc)
each_from {A} {B} f (x ∷ xs) zs zero z h g =
    let p = each_parts f x xs zs h in
    let at : Some p.0 ≡ Some z = ap (λ (ys : List B). slice_get ys 0) (sym p.4) ∙ g in
    (x, refl, p.2 ∙ at)
each_from {A} {B} f (x ∷ xs) zs (suc i) z h g =
    let p = each_parts f x xs zs h in
    each_from f xs p.1 i z p.3 (ap (λ (ys : List B). slice_get ys (suc i)) (sym p.4) ∙ g)

-- the result for an element
pub each_at :
    {A B : Type 0} (f : A → Option B) (xs : List A) (zs : List B) (i : ℕ) (x : A) → each_or_none f xs ≡ Some zs → slice_get xs i ≡ Some x
    → (z : B) × (slice_get zs i ≡ Some z) × (f x ≡ Some z)
each_at f [] zs i x h g = absurd (cc)
each_at {A} {B} f (y ∷ xs) zs zero x h g =
    let p = each_parts f y xs zs h in
    let same : y ≡ x = cc in
    (p.0, ap (λ (ys : List B). slice_get ys 0) p.4, ap f (sym same) ∙ p.2)
each_at {A} {B} f (y ∷ xs) zs (suc i) x h g =
    let p = each_parts f y xs zs h in
    let r = each_at f xs p.1 i x p.3 g in
    (r.0, ap (λ (ys : List B). slice_get ys (suc i)) p.4 ∙ r.1, r.2)
