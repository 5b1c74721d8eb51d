-- Tests of all elements of a list.
use Rattle.fb_types.proofs.Common.{◌≡◌, ◌||◌, ◌&&◌, Bool, true, false, List, [], ◌∷◌, map, Contains, refl, sym, ◌∙◌, ap, inl, inr, flat_map, list_any, list_all, true≢false, list_all-append}
use Rattle.fb_types.proofs.lemmas.lists.Elements.{Contains-nil, Contains-cons_cases, Contains-here, Contains-there}

-- ---- Where it fails

-- what fails for a list fails for an element
pub fails_at : {A : Type 0} (p : A → Bool) (xs : List A) → list_all p xs ≡ false → (x : A) × Contains xs x × (p x ≡ false)
fails_at p [] h = absurd (true≢false h)
fails_at {A} p (x ∷ xs) h =
    elim (p x) as (λ b. p x ≡ b → (b && list_all p xs) ≡ false → (y : A) × Contains (x ∷ xs) y × (p y ≡ false)) [
      | false ↦ λ e h. (x, Contains-here x xs, e)
      | true ↦ λ e h. let r = fails_at p xs h in (r.0, Contains-there x xs r.0 r.1, r.2)
    ] refl h

pub fails_from : {A : Type 0} (p : A → Bool) (xs : List A) (x : A) → Contains xs x → p x ≡ false → list_all p xs ≡ false
fails_from p [] x c f = absurd (Contains-nil x c)
fails_from p (y ∷ ys) x c f =
    elim (Contains-cons_cases y ys x c) [
      | inl e ↦ ap (λ b. b && list_all p ys) (ap p e ∙ f)
      | inr rest ↦ ap (λ b. p y && b) (fails_from p ys x rest f) ∙ and-false (p y)
    ]
  where
    and-false : (b : Bool) → (b && false) ≡ false
    and-false true = refl
    and-false false = refl

-- ---- Where it passes

pub passes_at : {A : Type 0} (p : A → Bool) (xs : List A) (x : A) → list_all p xs ≡ true → Contains xs x → p x ≡ true
passes_at p [] x h c = absurd (Contains-nil x c)
passes_at {A} p (y ∷ ys) x h c =
    elim (p y) as (λ b. p y ≡ b → (b && list_all p ys) ≡ true → p x ≡ true) [
      | false ↦ λ e h. absurd (true≢false (sym h))
      | true ↦ λ e h. elim (Contains-cons_cases y ys x c) [ inl same ↦ ap p (sym same) ∙ e | inr rest ↦ passes_at p ys x h rest ]
    ] refl h

pub passes_from : {A : Type 0} (p : A → Bool) (xs : List A) → ((x : A) → Contains xs x → p x ≡ true) → list_all p xs ≡ true
passes_from p [] h = refl
passes_from p (x ∷ xs) h = λ k. h x (Contains-here x xs) k && passes_from p xs (λ y c. h y (Contains-there x xs y c)) k

-- an element at which a test of some of them passes
pub passes_somewhere : {A : Type 0} (p : A → Bool) (xs : List A) → list_any p xs ≡ true → (x : A) × Contains xs x × (p x ≡ true)
passes_somewhere p [] h = absurd (true≢false (sym h))
passes_somewhere {A} p (x ∷ xs) h =
    elim (p x) as (λ b. p x ≡ b → (b || list_any p xs) ≡ true → (y : A) × Contains (x ∷ xs) y × (p y ≡ true)) [
      | true ↦ λ e g. (x, Contains-here x xs, e)
      | false ↦ λ e g. let r = passes_somewhere p xs g in (r.0, Contains-there x xs r.0 r.1, r.2)
    ] refl h

-- ---- Lists that are made of others, and tests that are made of others

pub list_all-map : {A B : Type 0} (p : B → Bool) (f : A → B) (xs : List A) → list_all p (map f xs) ≡ list_all (λ x. p (f x)) xs
list_all-map p f [] = refl
list_all-map p f (x ∷ xs) = ap (λ b. p (f x) && b) (list_all-map p f xs)

pub list_all-flat_map : {A B : Type 0} (p : B → Bool) (f : A → List B) (xs : List A) → list_all p (flat_map f xs) ≡ list_all (λ x. list_all p (f x)) xs
list_all-flat_map p f [] = refl
list_all-flat_map p f (x ∷ xs) = list_all-append p (f x) (flat_map f xs) ∙ ap (λ b. list_all p (f x) && b) (list_all-flat_map p f xs)

pub list_all-agree : {A : Type 0} (p q : A → Bool) → ((x : A) → p x ≡ q x) → (xs : List A) → list_all p xs ≡ list_all q xs
list_all-agree p q same [] = refl
list_all-agree p q same (x ∷ xs) = λ i. same x i && list_all-agree p q same xs i

both_first : (a b c d : Bool) → ((a && b) && (c && d)) ≡ ((a && c) && (b && d))
both_first true true c d = refl
both_first true false true d = refl
both_first true false false d = refl
both_first false b c d = refl

pub list_all-both : {A : Type 0} (p q : A → Bool) (xs : List A) → list_all (λ x. p x && q x) xs ≡ (list_all p xs && list_all q xs)
list_all-both p q [] = refl
list_all-both p q (x ∷ xs) =
    ap (λ b. (p x && q x) && b) (list_all-both p q xs) ∙ both_first (p x) (q x) (list_all p xs) (list_all q xs)
