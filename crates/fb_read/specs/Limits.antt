-- The limits of a declaration text (this project's profile).
use Rattle.std.specs.Prelude.{ℕ}

-- the greatest magnitude of a literal, 2^127 - 1
abbrev pub most : ℕ
most = 170141183460469231731687303715884105727
