-- Tests of the elements of a list, one after another, until one passes.
use Rattle.fb_types.proofs.Common.{◌≡◌, ℕ, ◌+◌, ◌<◌, ◌≤◌, ◌||◌, Bool, true, false, List, [], ◌∷◌, drop, get_or, length, sym, ◌∙◌, ap, at_drop_all, at_drop_more}

-- what the rest gives, if the rest begins with an element
here :
    {A : Type 0} (F : List A → Bool) (p : A → Bool) (xs : List A) (i : ℕ) (x : A) → ((y : A) (ys : List A) → F (y ∷ ys) ≡ (p y || F ys)) → i < length xs
    → x ≡ get_or xs i x → F xs ≡ F (drop i xs) → F xs ≡ (p x || F (drop (i + 1) xs))
here {A} F p xs i x parts within is before =
    before ∙ at_drop_more F xs i x within ∙ ap (λ (y : A). F (y ∷ drop (i + 1) xs)) (sym is) ∙ parts x (drop (i + 1) xs)

-- the element passes
pub passes_here :
    {A : Type 0} (F : List A → Bool) (p : A → Bool) (xs : List A) (i : ℕ) (x : A) → ((y : A) (ys : List A) → F (y ∷ ys) ≡ (p y || F ys)) → i < length xs
    → x ≡ get_or xs i x → p x ≡ true → F xs ≡ F (drop i xs) → F xs ≡ true
passes_here {A} F p xs i x parts within is passed before =
    here F p xs i x parts within is before ∙ ap (λ (b : Bool). b || F (drop (i + 1) xs)) passed

-- it does not
pub passes_later :
    {A : Type 0} (F : List A → Bool) (p : A → Bool) (xs : List A) (i : ℕ) (x : A) → ((y : A) (ys : List A) → F (y ∷ ys) ≡ (p y || F ys)) → i < length xs
    → x ≡ get_or xs i x → p x ≡ false → F xs ≡ F (drop i xs) → F xs ≡ F (drop (i + 1) xs)
passes_later {A} F p xs i x parts within is failed before =
    here F p xs i x parts within is before ∙ ap (λ (b : Bool). b || F (drop (i + 1) xs)) failed

-- none does
pub passes_never :
    {A : Type 0} (F : List A → Bool) (xs : List A) (i : ℕ) → F [] ≡ false → length xs ≤ i → F xs ≡ F (drop i xs) → F xs ≡ false
passes_never F xs i none past before = before ∙ at_drop_all F xs i past ∙ none
