-- Durations (IEC 61131-3, 6.3.5, in manner; whole numbers and only these units are this project's profile).
use Rattle.std.specs.Prelude.{ℕ, ◌+◌, ◌*◌, not, ◌==◌, if◌then◌else◌, List, [], ◌∷◌, take, drop, Option, Some, None, codes}
use Rattle.std.specs.List.{prefix_len}
use Rattle.std.specs.Char.{is_ascii_alphabetic}
use Rattle.std.specs.Str.{bytes_eq}
use Rattle.fb_read.specs.declared.time.Unit.{Unit}
use Rattle.fb_read.specs.declared.time.Unit.TheVariants as unit
use Rattle.fb_read.specs.Blank.{Text}
use Rattle.fb_read.specs.Numbers.{small, number}

abbrev pub name_of : Unit → Text
name_of unit.Day = codes "D"
name_of unit.Hour = codes "H"
name_of unit.Minute = codes "M"
name_of unit.Second = codes "S"
name_of unit.Millisecond = codes "MS"

-- one tick is a millisecond
abbrev pub ticks_of : Unit → ℕ
ticks_of unit.Day = 86400000
ticks_of unit.Hour = 3600000
ticks_of unit.Minute = 60000
ticks_of unit.Second = 1000
ticks_of unit.Millisecond = 1

-- the order in which they occur, each at most once
abbrev pub falling_units : List Unit
falling_units = unit.Day ∷ (unit.Hour ∷ (unit.Minute ∷ (unit.Second ∷ (unit.Millisecond ∷ []))))

-- the length of the digits at the front, and then of the letters of the unit
abbrev pub digits_len : Text → ℕ
digits_len = prefix_len (λ b. not (is_ascii_alphabetic b))

abbrev pub letters_len : Text → ℕ
letters_len = prefix_len is_ascii_alphabetic

abbrev pub digits_at : Text → Text
digits_at z = take (digits_len z) z

abbrev pub after_digits : Text → Text
after_digits z = drop (digits_len z) z

abbrev pub unit_at : Text → Text
unit_at z = take (letters_len (after_digits z)) (after_digits z)

abbrev pub after_unit : Text → Text
after_unit z = drop (letters_len (after_digits z)) (after_digits z)

-- what follows an underscore between two parts
abbrev pub next_part : Text → Text
next_part [] = []
next_part (b ∷ z) = if b == 95 then z else b ∷ z

abbrev pub small_product : Option ℕ → ℕ → Option ℕ
small_product None n = None
small_product (Some m) n = small (m * n)

abbrev pub small_sum : Option ℕ → Option ℕ → Option ℕ
small_sum None more = None
small_sum (Some m) None = None
small_sum (Some m) (Some n) = small (m + n)

-- no further ticks if the text ends, or else these
abbrev pub ended : Text → Option ℕ → Option ℕ
ended [] more = Some 0
ended (b ∷ z) more = more

-- the ticks of one or more parts with only these units, in upper case. No part is negative, so the sum is within the
-- bound exactly if each step to it is.
unfoldable pub parts : List Unit → Text → Option ℕ
parts [] z = None
parts (u ∷ less) z =
    if bytes_eq (unit_at z) (name_of u)
    then small_sum (small_product (number 10 (digits_at z)) (ticks_of u)) (ended (after_unit z) (parts less (next_part (after_unit z))))
    else parts less z

abbrev pub duration : Text → Option ℕ
duration = parts falling_units
