-- What the elements of a list give, each with its index, one after the other.
use Rattle.std.specs.Prelude.{ℕ, ◌+◌, List, [], ◌∷◌, ◌++◌}

abbrev pub listed : {A B : Type 0} → (ℕ → A → List B) → (index : ℕ) → List A → List B
listed give k [] = []
listed give k (x ∷ xs) = give k x ++ listed give (k + 1) xs
