-- What is in a list before, by its indexes.
use Rattle.std.specs.Prelude.{◌≡◌, ◌<◌, ◌+◌, ℕ, Bool, List, [], ◌∷◌, Option, Some, None, Contains, cond, slice_get, take}
use Rattle.fb_types.specs.Repeated.{Twice}
use Rattle.fb_check_names.specs.Listed.{each_at}

-- The same item is at both indexes, the earlier one first.
pub record IsPair {A : Type 0} (xs : List A) (locations : ℕ × ℕ) : Type 0 where
  pub in_order : locations.0 < locations.1
  pub what : A
  pub first : slice_get xs locations.0 ≡ Some what
  pub again : slice_get xs locations.1 ≡ Some what

-- The item at the index is in the list before, and no item before it is there twice.
pub record IsFirstRepeat {A : Type 0} (xs : List A) (location : ℕ) : Type 0 where
  pub what : A
  pub here : slice_get xs location ≡ Some what
  pub before : Contains (take location xs) what
  pub first : ¬ (Twice (take location xs))

-- one index further
abbrev pub further : Option ℕ → Option ℕ
further None = None
further (Some k) = Some (k + 1)

-- the later index, if there is one
abbrev pub later : Option ℕ → Option ℕ → Option ℕ
later None first = first
later (Some k) first = Some k

-- the index of the last item that passes
abbrev pub last_index : {A : Type 0} → (A → Bool) → List A → Option ℕ
last_index p [] = None
last_index p (x ∷ xs) = later (further (last_index p xs)) (cond (p x) (Some 0) None)

-- this index, with that of an item before it
abbrev pub pair_at : ℕ → Option ℕ → List (ℕ × ℕ)
pair_at k None = []
pair_at k (Some j) = (j, k) ∷ []

-- each item that is the same as one before it, with the nearest of them
abbrev pub repeats : {A : Type 0} → (A → A → Bool) → List A → List (ℕ × ℕ)
repeats same xs = each_at (λ k x. pair_at k (last_index (same x) (take k xs))) xs
