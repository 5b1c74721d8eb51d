-- Lists along the numbers of a list.
use Rattle.fb_check.proofs.lemmas.Common.{◌≡◌, ℕ, ◌+◌, List, [], ◌∷◌, ◌++◌, Option, Some, sym, ◌∙◌, ap, option_map, same_Some, each_or_none, each_at, each_from}
use Rattle.fb_types.proofs.lemmas.lists.Options.{and_then_parts, map_parts}

numbered_from :
    {A B C : Type 0} (f : A → Option B) (g : ℕ → B → List C) (h : ℕ → A → List C) (xs : List A) (ys : List B) (k : ℕ) → each_or_none f xs ≡ Some ys
    → ((j : ℕ) (x : A) (y : B) → f x ≡ Some y → g j y ≡ h j x) → each_from g k ys ≡ each_from h k xs
numbered_from {B = B} f g h [] ys k e same = ap (each_from g k) (sym (same_Some [] ys e))
numbered_from {A} {B} f g h (x ∷ xs) ys k e same =
    let a = and_then_parts (λ (y : B). option_map (λ (zs : List B). y ∷ zs) (each_or_none f xs)) (f x) ys e in
    let b = map_parts (λ (zs : List B). a.0 ∷ zs) (each_or_none f xs) ys a.2 in
    ap (each_from g k) (sym b.2) ∙ (λ i. same k x a.0 a.1 i ++ numbered_from f g h xs b.0 (k + 1) b.1 same i)

-- what belongs to each number is what belongs to its element
pub numbered_list :
    {A B C : Type 0} (f : A → Option B) (g : ℕ → B → List C) (h : ℕ → A → List C) (xs : List A) (ys : List B) → each_or_none f xs ≡ Some ys
    → ((j : ℕ) (x : A) (y : B) → f x ≡ Some y → g j y ≡ h j x) → each_at g ys ≡ each_at h xs
numbered_list f g h xs ys e same = numbered_from f g h xs ys 0 e same
