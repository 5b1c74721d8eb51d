-- Lists of which each element may fail.
use Rattle.std.specs.Prelude.{List, [], ◌∷◌, Option, Some, None, option_and_then}

infixl 10 ◌>>=◌
abbrev pub ◌>>=◌ : {A B : Type 0} → Option A → (A → Option B) → Option B
o >>= f = option_and_then f o

-- the results of a function for all of the elements, if it has a result for each
unfoldable pub each : {A B : Type 0} → (A → Option B) → List A → Option (List B)
each f [] = Some []
each f (x ∷ xs) = do
  y ← f x
  ys ← each f xs
  Some (y ∷ ys)

-- the result for an element that may be absent; nothing if the function has none for it
abbrev pub may : {A B : Type 0} → (A → Option B) → Option A → Option (Option B)
may f None = Some None
may f (Some x) = f x >>= λ y. Some (Some y)
