-- Lists of which each element may fail.
use Rattle.std.specs.Prelude.{ℕ, ◌+◌, List, [], ◌∷◌, ◌++◌, Option, option_and_then, Result, Ok, Err}
use Rattle.fb_inputs.specs.Refusals.{and_then, or_refuse}

infixl 10 ◌>>=◌
abbrev pub ◌>>=◌ : {A B : Type 0} → Option A → (A → Option B) → Option B
o >>= f = option_and_then f o

-- The results of a function for all of the elements, if it has a result for each. The first element without one is refused,
-- by its index.
unfoldable pub each_at : {A B N : Type 0} → (ℕ → N) → (A → Option B) → ℕ → List A → Result (List B) N
each_at why f k [] = Ok []
each_at why f k (x ∷ xs) =
    and_then (or_refuse (why k) (f x)) (λ y. and_then (each_at why f (k + 1) xs) (λ ys. Ok (y ∷ ys)))

-- what was wrong, as something else
abbrev pub placed : {A M N : Type 0} → (M → N) → Result A M → Result A N
placed at (Ok x) = Ok x
placed at (Err why) = Err (at why)

-- the same, where the element says itself what is wrong with it
unfoldable pub each_in : {A B M N : Type 0} → (ℕ → M → N) → (A → Result B M) → ℕ → List A → Result (List B) N
each_in at f k [] = Ok []
each_in at f k (x ∷ xs) = and_then (placed (at k) (f x)) (λ y. and_then (each_in at f (k + 1) xs) (λ ys. Ok (y ∷ ys)))

-- what was found before, and what is still found
abbrev pub all_after : {B N : Type 0} → List B → Result (List B) N → Result (List B) N
all_after front (Ok more) = Ok (front ++ more)
all_after front (Err n) = Err n
