-- Words of lines: names, numbers and values (this project's profile).
use Rattle.std.specs.Prelude.{ℕ, ℤ, pos, neg_ℤ, ◌+◌, ◌-◌, ◌*◌, ◌^◌, Bool, true, false, not, ◌&&◌, ◌||◌, ◌==◌, if◌then◌else◌, nat_le, nat_eq, List, [], ◌∷◌, fold, length, take, drop, position, slice_index, Option, Some, None, is_some, option_map, option_and_then, codes}
use Rattle.std.specs.Char.{is_ascii_digit}
use Rattle.std.specs.List.{list_all, list_any, slice_split}
use Rattle.std.specs.Str.{bytes_eq}
use Rattle.fb_types.specs.declared.value.Value.{Value}
use Rattle.fb_types.specs.declared.value.Value.TheVariants as value

abbrev pub Text : Type 0
Text = List ℕ

infixl 10 ◌>>=◌
abbrev pub ◌>>=◌ : {A B : Type 0} → Option A → (A → Option B) → Option B
o >>= f = option_and_then f o

-- what comes after a front, and what comes before an end
abbrev pub after_front : (front : Text) → Text → Option Text
after_front front z = if bytes_eq (take (length front) z) front then Some (drop (length front) z) else None

abbrev pub before : (end : Text) → Text → Option Text
before end z = if bytes_eq (drop (length z - length end) z) end then Some (take (length z - length end) z) else None

-- a byte that ends a word of a line: a blank or a line feed
abbrev pub is_end : ℕ → Bool
is_end b = b == 32 || b == 10

-- the bytes before the first that ends a word, and the rest from that one on
unfoldable pub cut : Text → Option (Text × Text)
cut z = option_map (λ i. (take i z, drop i z)) (position is_end z)

-- what comes before the first index of a mark, and what comes after it
unfoldable pub split_at_mark : ℕ → Text → Option (Text × Text)
split_at_mark mark z = option_map (λ i. (take i z, drop (i + 1) z)) (position (nat_eq mark) z)

-- ---- Names

-- an upper-case letter or an underscore
abbrev pub is_letter : ℕ → Bool
is_letter b = (nat_le 65 b && nat_le b 90) || b == 95

-- a letter, a digit or an underscore
abbrev pub is_word : ℕ → Bool
is_word b = is_letter b || is_ascii_digit b

-- a letter, and letters, digits and underscores after it
abbrev pub is_name : Text → Bool
is_name [] = false
is_name (b ∷ z) = is_letter b && list_all is_word z

-- names with a full stop between each and the next
abbrev pub is_path : Text → Bool
is_path z = list_all is_name (slice_split (nat_eq 46) z)

-- a full stop is in the text
abbrev pub has_stop : Text → Bool
has_stop z = list_any (λ b. b == 46) z

-- a path and an event
abbrev pub is_port : Text → Bool
is_port z = has_stop z && is_path z

-- ---- Numbers

abbrev pub with_digit : ℕ → ℕ → ℕ
with_digit n b = 10 * n + (b - 48)

-- decimal digits without needless zeros
abbrev pub is_numeral : Text → Bool
is_numeral z = list_all is_ascii_digit z && not (length z == 0) && ((length z == 1) || not (slice_index z 0 == 48))

-- the number that decimal digits make, where it is at most `most`
unfoldable pub natural : (most : ℕ) → Text → Option ℕ
natural most z = if is_numeral z && nat_le (fold with_digit 0 z) most then Some (fold with_digit 0 z) else None

-- a number of 64 bits
abbrev pub magnitude : Text → Option ℕ
magnitude z = natural (2 ^ 64 - 1) z

-- ---- Values

-- a number below 0, of which these are the digits
abbrev pub below_zero : Text → Option ℤ
below_zero z = magnitude z >>= λ n. if n == 0 then None else Some (neg_ℤ (pos n))

-- a whole number of 64 bits and a sign
unfoldable pub whole : Text → Option ℤ
whole [] = None
whole (b ∷ z) = if b == 45 then below_zero z else option_map pos (magnitude (b ∷ z))

-- a truth value, or a whole number
unfoldable pub value_of : Text → Option Value
value_of z =
    if bytes_eq z (codes "TRUE") then Some (value.Bool true)
    else if bytes_eq z (codes "FALSE") then Some (value.Bool false)
    else option_map value.Whole (whole z)

-- ---- Bindings

-- a name, an equals sign and a value
unfoldable pub is_binding : Text → Bool
is_binding w = is_some (split_at_mark 61 w >>= λ p. if is_name p.0 then value_of p.1 else None)

-- nothing, or a blank and bindings with a blank between each and the next
abbrev pub are_values : Text → Bool
are_values [] = true
are_values (b ∷ z) = (b == 32) && list_all is_binding (slice_split (nat_eq 32) z)

-- the words after the blank that a text begins with
abbrev pub words_after : Text → List Text
words_after [] = []
words_after (b ∷ z) = slice_split (nat_eq 32) z
