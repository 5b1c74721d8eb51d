-- What a list contains, and the lists that are made of it.
use Rattle.fb_types.proofs.Common.{◌≡◌, ◌⊎◌, List, [], ◌∷◌, map, Contains, sym, subst, inl, inr, arith, flat_map, Contains-append_left, Contains-append_right, Contains-push, Contains-push_cases, Contains-append_cases}

-- ---- One element first

pub Contains-nil : {A : Type 0} (x : A) → ¬ (Contains [] x)
Contains-nil x h = absurd (omega (arith, h.1))

pub Contains-cons_cases : {A : Type 0} (x : A) (xs : List A) (y : A) → Contains (x ∷ xs) y → (x ≡ y) ⊎ Contains xs y
Contains-cons_cases x xs y h =
    elim (Contains-append_cases (x ∷ []) xs y h) [
      | inl one ↦ elim (Contains-push_cases [] x y one) [ inl none ↦ absurd (Contains-nil y none) | inr e ↦ inl e ]
      | inr rest ↦ inr rest
    ]

pub Contains-here : {A : Type 0} (x : A) (xs : List A) → Contains (x ∷ xs) x
Contains-here x xs = Contains-append_left (x ∷ []) xs x (Contains-push [] x)

pub Contains-there : {A : Type 0} (x : A) (xs : List A) (y : A) → Contains xs y → Contains (x ∷ xs) y
Contains-there x xs y h = Contains-append_right (x ∷ []) xs y h

-- ---- The results of a function for each

pub Contains-map : {A B : Type 0} (f : A → B) (xs : List A) (x : A) → Contains xs x → Contains (map f xs) (f x)
Contains-map f [] x h = absurd (Contains-nil x h)
Contains-map {A} f (y ∷ ys) x h =
    elim (Contains-cons_cases y ys x h) [
      | inl e ↦ subst (λ (z : A). Contains (f y ∷ map f ys) (f z)) e (Contains-here (f y) (map f ys))
      | inr rest ↦ Contains-there (f y) (map f ys) (f x) (Contains-map f ys x rest)
    ]

pub map-Contains : {A B : Type 0} (f : A → B) (xs : List A) (z : B) → Contains (map f xs) z → (x : A) × Contains xs x × (f x ≡ z)
map-Contains f [] z h = absurd (Contains-nil z h)
map-Contains f (y ∷ ys) z h =
    elim (Contains-cons_cases (f y) (map f ys) z h) [
      | inl e ↦ (y, Contains-here y ys, e)
      | inr rest ↦ let r = map-Contains f ys z rest in (r.0, Contains-there y ys r.0 r.1, r.2)
    ]

pub Contains-flat_map : {A B : Type 0} (f : A → List B) (xs : List A) (x : A) (z : B) → Contains xs x → Contains (f x) z → Contains (flat_map f xs) z
Contains-flat_map f [] x z h g = absurd (Contains-nil x h)
Contains-flat_map {A} f (y ∷ ys) x z h g =
    elim (Contains-cons_cases y ys x h) [
      | inl e ↦ Contains-append_left (f y) (flat_map f ys) z (subst (λ (w : A). Contains (f w) z) (sym e) g)
      | inr rest ↦ Contains-append_right (f y) (flat_map f ys) z (Contains-flat_map f ys x z rest g)
    ]

pub flat_map-Contains : {A B : Type 0} (f : A → List B) (xs : List A) (z : B) → Contains (flat_map f xs) z → (x : A) × Contains xs x × Contains (f x) z
flat_map-Contains f [] z h = absurd (Contains-nil z h)
flat_map-Contains f (y ∷ ys) z h =
    elim (Contains-append_cases (f y) (flat_map f ys) z h) [
      | inl here ↦ (y, Contains-here y ys, here)
      | inr rest ↦ let r = flat_map-Contains f ys z rest in (r.0, Contains-there y ys r.0 r.1, r.2)
    ]
