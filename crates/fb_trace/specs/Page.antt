-- What a page contains (this project's profile).
use Rattle.std.specs.Prelude.{ℕ, List}

-- The text that waits to be written, and how many bytes were written before it, up to `u128::MAX`.
pub record Page : Type 0 where
  pub waiting : List ℕ
  pub written : ℕ
