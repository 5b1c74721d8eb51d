-- What is looked up at an index of a list.
use Rattle.fb_types.proofs.Common.{◌≡◌, ◌≤◌, ◌<◌, ℕ, List, Option, Some, None, get_or, length, refl, sym, ap, ◌∙◌, slice_get_past, slice_get_read, option_and_then, option_map, slice_get}

module _ {A B : Type 0} (xs : List A) (i : ℕ) where
  -- what an element has
  pub none_had : (f : A → B) → length xs ≤ i → None ≡ option_map f (slice_get xs i)
  none_had f past = sym (ap (option_map f) (slice_get_past xs i past))

  pub had : (f : A → B) (x : A) (y : B) → i < length xs → x ≡ get_or xs i x → y ≡ f x → Some y ≡ option_map f (slice_get xs i)
  had f x y within is gives = ap (λ (b : B). Some b) gives ∙ sym (ap (option_map f) (slice_get_read xs (length xs) i x refl within is))

  -- what an element may have
  pub none_found : (f : A → Option B) → length xs ≤ i → None ≡ option_and_then f (slice_get xs i)
  none_found f past = sym (ap (option_and_then f) (slice_get_past xs i past))

  pub found : (f : A → Option B) (x : A) (o : Option B) → i < length xs → x ≡ get_or xs i x → o ≡ f x → o ≡ option_and_then f (slice_get xs i)
  found f x o within is gives = gives ∙ sym (ap (option_and_then f) (slice_get_read xs (length xs) i x refl within is))
