-- The bytes that a run is given (this project's profile).
use Rattle.std.specs.Prelude.{ℕ, List, Option}

pub record Given : Type 0 where
  pub declaration : List ℕ
  pub deploy : Option (List ℕ)
  pub stimuli : Option (List ℕ)
