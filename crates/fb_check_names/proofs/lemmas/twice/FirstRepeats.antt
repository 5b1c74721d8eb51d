-- The first item that is in a list before.
use Rattle.fb_types.proofs.Common.{◌≡◌, ℕ, zero, suc, ◌+◌, ◌<◌, ◌++◌, Bool, true, List, [], ◌∷◌, length, map, take, get_or, Some, None, Option, Contains, inl, inr, sym, ◌∙◌, ap, subst, refl, option_map, slice_get, slice_get-map, slice_get_read, Decides, is_some, Twice}
use Rattle.fb_types.proofs.lemmas.lists.ByIndex.{element_of_index}
use Rattle.fb_types.proofs.lemmas.lists.Elements.{Contains-cons_cases, Contains-nil}
use Rattle.fb_types.proofs.lemmas.lists.LoopSteps.{more_of_part}
use Rattle.fb_types.proofs.lemmas.lists.TwiceLaws.{once_push}
use Rattle.fb_check_names.specs.Repeats.{IsFirstRepeat, last_index}
use Rattle.fb_check_names.proofs.lemmas.twice.Repeating.{at_last_index, nowhere_last, take-map}

-- an item that is the same as one of a list is in it
pub seen_before :
    {A : Type 0} (same : A → A → Bool) (xs : List A) (x : A) → ((x y : A) → Decides (same x y) (x ≡ y)) → is_some (last_index (same x) xs) ≡ true → Contains xs x
seen_before {A} same xs x decides some =
    elim (last_index (same x) xs) as (λ o. last_index (same x) xs ≡ o → is_some o ≡ true → Contains xs x) [
      | None ↦ λ e h. absurd (cc)
      | Some j ↦ λ e h.
          let at = at_last_index (same x) xs j e in
          subst (λ (y : A). Contains xs y) (sym ((decides x at.0).0 at.2)) (element_of_index xs j at.0 at.1)
    ] refl some

-- one item more, which was not in the list
pub once_more :
    {A B : Type 0} (same : B → B → Bool) (f : A → B) (xs : List A) (i : ℕ) (x : A) (y : B) → ((x y : B) → Decides (same x y) (x ≡ y)) → i < length xs → x ≡ get_or xs i x → y ≡ f x
    → last_index (same y) (map f (take i xs)) ≡ None → ¬ (Twice (map f (take i xs))) → ¬ (Twice (map f (take (i + 1) xs)))
once_more {B = B} same f xs i x y decides within is named none once =
    more_of_part (λ (ys : List B). ¬ (Twice ys)) f xs i x y within is named
    (once_push (map f (take i xs)) y once (λ c. nowhere_last (same y) (map f (take i xs)) y none c ((decides y y).1 refl)))

-- the item at hand is the first that is in the list before
pub first_repeat_here :
    {A B : Type 0} (same : B → B → Bool) (f : A → B) (xs : List A) (i : ℕ) (x : A) (y : B) → ((x y : B) → Decides (same x y) (x ≡ y)) → i < length xs → x ≡ get_or xs i x → y ≡ f x
    → is_some (last_index (same y) (map f (take i xs))) ≡ true → ¬ (Twice (map f (take i xs))) → IsFirstRepeat (map f xs) i
first_repeat_here {B = B} same f xs i x y decides within is named some once = record {
  what = y;
  here = slice_get-map f xs i ∙ ap (λ o. option_map f o) (slice_get_read xs (length xs) i x refl within is) ∙ ap (λ (z : B). Some z) (sym named);
  before = subst (λ (ys : List B). Contains ys y) (sym (take-map f i xs)) (seen_before same (map f (take i xs)) y decides some);
  first = subst (λ (ys : List B). ¬ (Twice ys)) (sym (take-map f i xs)) once;
}

at_and_before : {A : Type 0} (xs : List A) (k : ℕ) (x : A) → slice_get xs k ≡ Some x → Contains (take k xs) x → Twice xs
at_and_before [] k x h c = absurd (cc)
at_and_before (y ∷ ys) zero x h c = absurd (Contains-nil x c)
at_and_before {A} (y ∷ ys) (suc k) x h c =
    elim (Contains-cons_cases y (take k ys) x c) [
      | inl e ↦ inl (subst (λ (z : A). Contains ys z) (sym e) (element_of_index ys k x h))
      | inr rest ↦ inr (at_and_before ys k x h rest)
    ]

pub repeat_twice : {A : Type 0} (xs : List A) (k : ℕ) → IsFirstRepeat xs k → Twice xs
repeat_twice xs k r = at_and_before xs k r.what r.here r.before
