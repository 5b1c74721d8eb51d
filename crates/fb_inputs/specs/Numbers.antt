-- Whole numbers and values in rows of stimuli (this project's profile, in the manner of IEC 61131-3, 6.3).
use Rattle.std.specs.Prelude.{ℕ, ◌+◌, ◌-◌, ◌*◌, ◌^◌, ℤ, pos, neg_ℤ, Bool, true, false, not, ◌&&◌, if◌then◌else◌, ◌==◌, nat_le, [], ◌∷◌, fold, length, Option, Some, None, option_map, codes}
use Rattle.std.specs.List.{list_all}
use Rattle.std.specs.Char.{is_ascii_digit}
use Rattle.std.specs.Str.{str_eq_ignore_ascii_case}
use Rattle.fb_types.specs.declared.value.Value.{Value}
use Rattle.fb_types.specs.declared.value.Value.TheVariants as value
use Rattle.fb_inputs.specs.Lists.{◌>>=◌}
use Rattle.fb_inputs.specs.Words.{Text}

abbrev pub with_digit : ℕ → ℕ → ℕ
with_digit n b = 10 * n + (b - 48)

-- one or more decimal digits
abbrev pub are_digits : Text → Bool
are_digits z = not (length z == 0) && list_all is_ascii_digit z

-- the number that decimal digits make
unfoldable pub natural : Text → Option ℕ
natural z = if are_digits z then Some (fold with_digit 0 z) else None

abbrev pub within : ℕ → ℕ → Option ℕ
within most n = if nat_le n most then Some n else None

-- a whole number of 128 bits: an optional sign, and decimal digits
unfoldable pub whole : Text → Option ℤ
whole [] = None
whole (b ∷ z) =
    if b == 45 then option_map (λ n. neg_ℤ (pos n)) (natural z >>= within (2 ^ 127))
    else option_map pos (natural (b ∷ z) >>= within (2 ^ 127 - 1))

-- a truth value, in any letter case, or a whole number
unfoldable pub value_of : Text → Option Value
value_of z =
    if str_eq_ignore_ascii_case z (codes "TRUE") then Some (value.Bool true)
    else if str_eq_ignore_ascii_case z (codes "FALSE") then Some (value.Bool false)
    else option_map value.Whole (whole z)
