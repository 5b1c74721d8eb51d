-- Pieces of a text, one for each element of a list, each with its number.
use Rattle.fb_types.proofs.Common.{◌≡◌, ℕ, ◌+◌, ◌<◌, ◌≤◌, suc, List, [], ◌∷◌, ◌++◌, length, get_or, drop, sym, ap, ◌∙◌, append_assoc, append-nil, add-one, drop-cons, drop_all}

-- A text of a list and the number of its first element, that goes from element to element.
pub record Goes {X : Type 0} (F : ℕ → List X → List ℕ) (E : ℕ → X → List ℕ) : Type 0 where
  pub none : (s : ℕ) → F s [] ≡ []
  pub more : (s : ℕ) (x : X) (xs : List X) → F s (x ∷ xs) ≡ E s x ++ F (s + 1) xs

-- So far the text after the old one is that of the elements before an index: with that of the rest it is that of all.
abbrev pub SoFar : {X : Type 0} → (ℕ → List X → List ℕ) → (old text : List ℕ) → (first s index : ℕ) → List X → Type 0
SoFar F old text first s index xs = text ++ F s (drop index xs) ≡ old ++ F first xs

pub going_on :
    {X : Type 0} (F : ℕ → List X → List ℕ) (E : ℕ → X → List ℕ) (old text new : List ℕ) (first s i : ℕ) (xs : List X) (x : X) → Goes F E → i < length xs → x ≡ get_or xs i x
    → new ≡ text ++ E s x → SoFar F old text first s i xs → SoFar F old new first (s + 1) (i + 1) xs
going_on F E old text new first s i xs x goes within is put soFar =
    let next : drop i xs ≡ x ∷ drop (i + 1) xs = drop-cons xs i x within ∙ ap (λ y. y ∷ drop (suc i) xs) (sym is) ∙ ap (λ k. x ∷ drop k xs) (sym (add-one i)) in
    ap (λ l. l ++ F (s + 1) (drop (i + 1) xs)) put ∙ append_assoc text (E s x) (F (s + 1) (drop (i + 1) xs))
    ∙ ap (λ l. text ++ l) (sym (ap (F s) next ∙ goes.more s x (drop (i + 1) xs))) ∙ soFar

pub gone_all :
    {X : Type 0} (F : ℕ → List X → List ℕ) (E : ℕ → X → List ℕ) (old text : List ℕ) (first s i : ℕ) (xs : List X) → Goes F E → length xs ≤ i
    → SoFar F old text first s i xs → text ≡ old ++ F first xs
gone_all F E old text first s i xs goes past soFar =
    sym (append-nil text) ∙ ap (λ l. text ++ l) (sym (ap (F s) (drop_all i xs past) ∙ goes.none s)) ∙ soFar
