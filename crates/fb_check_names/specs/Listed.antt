-- Locations along a list, in its order.
use Rattle.std.specs.Prelude.{ℕ, ◌+◌, Bool, true, false, List, [], ◌∷◌, ◌++◌}

-- what belongs to each element and its index, one after another; indexes are counted from this one
abbrev pub each_from : {A B : Type 0} → (ℕ → A → List B) → ℕ → List A → List B
each_from f k [] = []
each_from f k (x ∷ xs) = f k x ++ each_from f (k + 1) xs

abbrev pub each_at : {A B : Type 0} → (ℕ → A → List B) → List A → List B
each_at f xs = each_from f 0 xs

-- a location, unless what is required there holds
abbrev pub unless : {B : Type 0} → Bool → B → List B
unless true p = []
unless false p = p ∷ []
