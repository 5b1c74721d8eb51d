-- Lines without their ticks (docs/FORMATS.md, "Where two traces differ"; this project's own).
use Rattle.std.specs.Prelude.{ℕ, ◌-◌, ◌^◌, if◌then◌else◌, [], length, take, Option, Some, None, is_some, unwrap_or, codes}
use Rattle.fb_expect.specs.Words.{Text, ◌>>=◌, after_front, cut, magnitude, natural}

-- what comes after the first word and the blank after it, if the word is a number
abbrev pub after_number : Text → Option Text
after_number z = cut z >>= λ p. if is_some (natural (2 ^ 128 - 1) p.0) then after_front (codes " ") p.1 else None

abbrev pub or_else : Option Text → Option Text → Option Text
or_else (Some t) other = Some t
or_else None other = other

-- what comes after three numbers, the key of form two
abbrev pub after_key : Text → Option Text
after_key z = after_number z >>= λ y. after_number y >>= λ x. after_number x

-- the text from the tick on: after the first word of a last line, after the key of form two, or the whole
unfoldable pub from_tick : Text → Text
from_tick z = unwrap_or (or_else (after_front (codes "end ") z) (or_else (after_front (codes "stop ") z) (after_key z))) z

-- what is before the tick and what is after it; all of another line is before it
abbrev pub around : (line from : Text) → Option (Text × Text) → Text × Text
around line from (Some p) = if is_some (magnitude p.0) then (take (length line - length from) line, p.1) else (line, [])
around line from None = (line, [])

unfoldable pub without_tick : Text → Text × Text
without_tick line = let from = from_tick line in around line from (cut from)
