-- Durations by the shape of the text, in upper case (IEC 61131-3, 6.3.5, in manner; whole numbers and only these units
-- are this project's profile).
use Rattle.std.specs.Prelude.{◌≡◌, ◌↔◌, ℕ, ◌+◌, ◌*◌, ◌<◌, ◌≤◌, ◌∷◌, ◌++◌, Some}
use Rattle.fb_read.specs.declared.time.Unit.{Unit}
use Rattle.fb_read.specs.Blank.{Text}
use Rattle.fb_read.specs.Limits.{most}
use Rattle.fb_read.specs.Numbers.{number}
use Rattle.fb_read.specs.Durations.{name_of, ticks_of, duration}

-- digits and a unit, and their ticks
pub data IsPart : Unit → Text → ℕ → Type 0 where
  a_part : (u : Unit) (digits : Text) (m : ℕ) → number 10 digits ≡ Some m → IsPart u (digits ++ name_of u) (m * ticks_of u)

-- Parts, the first of this unit, each of a smaller unit than the one before it; their ticks together. An underscore may
-- be between two.
pub data AreParts : Unit → Text → ℕ → Type 0 where
  a_last : (u : Unit) (a : Text) (n : ℕ) → IsPart u a n → AreParts u a n
  a_further : (u v : Unit) (a z : Text) (m n : ℕ) → IsPart u a m → ticks_of v < ticks_of u → AreParts v z n → AreParts u (a ++ z) (m + n)
  apart : (u v : Unit) (a z : Text) (m n : ℕ) → IsPart u a m → ticks_of v < ticks_of u → AreParts v z n → AreParts u (a ++ 95 ∷ z) (m + n)

-- the text is parts with this number of ticks, no more than a literal may have
pub record IsDuration (z : Text) (n : ℕ) : Type 0 where
  pub first : Unit
  pub are_parts : AreParts first z n
  pub within : n ≤ most

abbrev pub DurationsExactly : Type 0
DurationsExactly = (z : Text) (n : ℕ) → (duration z ≡ Some n) ↔ IsDuration z n
