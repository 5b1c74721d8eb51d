-- Whole numbers in several bases (IEC 61131-3, 6.3.2, in manner; the bound is this project's profile).
use Rattle.std.specs.Prelude.{ℕ, ◌+◌, ◌-◌, ◌*◌, Bool, true, false, not, ◌&&◌, if◌then◌else◌, ◌==◌, nat_le, nat_lt, [], ◌∷◌, fold, Option, Some, None}
use Rattle.fb_read.specs.Limits.{most}
use Rattle.fb_read.specs.Blank.{Text}

-- the digit that a byte is; 16, which is a digit of no base, if it is none
abbrev pub digit_of : ℕ → ℕ
digit_of b =
    if nat_le 48 b && nat_le b 57 then b - 48
    else (if nat_le 65 b && nat_le b 70 then b - 55 else (if nat_le 97 b && nat_le b 102 then b - 87 else 16))

-- digits of a base, with single underscores between them; the flag says that a digit has to be next
abbrev pub are_digits : ℕ → Bool → Text → Bool
are_digits base expected [] = not expected
are_digits base expected (b ∷ z) =
    if b == 95 && not expected then are_digits base true z else (nat_lt (digit_of b) base && are_digits base false z)

abbrev pub with_digit : ℕ → ℕ → ℕ → ℕ
with_digit base n b = if b == 95 then n else base * n + digit_of b

abbrev pub value_of : ℕ → Text → ℕ
value_of base = fold (with_digit base) 0

-- a number that a literal may have
abbrev pub small : ℕ → Option ℕ
small n = if nat_le n most then Some n else None

-- the number that digits of a base make
unfoldable pub number : ℕ → Text → Option ℕ
number base z = if are_digits base true z then small (value_of base z) else None
