-- The number of a name of few letters (this project's own).
use Rattle.std.specs.Prelude.{ℕ, ◌+◌, ◌*◌, ◌-◌, List, [], ◌∷◌, ◌&&◌, ◌||◌, length, if◌then◌else◌, nat_le, nat_eq}

-- The digit of a letter, a decimal digit or an underscore, from 1 to 37. Any other byte has the digit 0.
abbrev pub digit : ℕ → ℕ
digit b = if nat_le 48 b && nat_le b 57 then b - 47 else if nat_le 65 b && nat_le b 90 then b - 54 else if nat_eq b 95 then 37 else 0

-- The digits in base 38, the first letter last, after a leading 1. 0 if a byte has no digit.
abbrev pub packed : List ℕ → ℕ
packed [] = 1
packed (b ∷ bs) = if nat_eq (digit b) 0 || nat_eq (packed bs) 0 then 0 else digit b + 38 * packed bs

-- how many letters fit in a number of 64 bits
abbrev pub most : ℕ
most = 12

-- The number of a short name. A longer name has 0 too.
abbrev pub short_number_of : List ℕ → ℕ
short_number_of bs = if nat_le (length bs) most then packed bs else 0
