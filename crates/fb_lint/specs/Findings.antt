-- What is found at the elements of a list, in their order.
use Rattle.std.specs.Prelude.{ℕ, ◌+◌, List, [], ◌∷◌, ◌++◌, map, Bool, if◌then◌else◌}
use Rattle.std.specs.Borrow.{Bor}
use Rattle.fb_types.specs.Names.{Name}

-- one, if a test passes
abbrev pub when : {A : Type 0} → Bool → A → List A
when b x = if b then x ∷ [] else []

-- what is found at each element, whose indexes begin at a number
abbrev pub each_from : {A B : Type 0} → (ℕ → A → List B) → ℕ → List A → List B
each_from f k [] = []
each_from f k (x ∷ xs) = f k x ++ each_from f (k + 1) xs

-- the names that the code borrows
abbrev pub names_are : List (Bor Name) → List Name
names_are ns = map (λ n. n.now) ns
