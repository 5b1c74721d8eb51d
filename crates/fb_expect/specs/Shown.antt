-- Names as reports show them (docs/FORMATS.md, "The report (TAP)"; this project's own).
use Rattle.std.specs.Prelude.{ℕ, zero, suc, ◌-◌, Bool, ◌&&◌, ◌||◌, ◌==◌, if◌then◌else◌, nat_le, nat_lt, List, [], ◌∷◌}
use Rattle.fb_expect.specs.Words.{Text}

-- how many bytes the first character of a text has if it is U+FFFE or U+FFFF, a control character from U+0080 to U+009F, or one below; 0 if
-- it is another
abbrev pub hidden_three : (first second : ℕ) → Text → ℕ
hidden_three a b [] = 0
hidden_three a b (c ∷ z) = if (a == 239) && ((b == 191) && nat_le 190 c) then 3 else 0

abbrev pub hidden_two : (first : ℕ) → Text → ℕ
hidden_two a [] = 0
hidden_two a (b ∷ z) = if (a == 194) && (nat_le 128 b && nat_le b 159) then 2 else hidden_three a b z

abbrev pub hidden_by : (first : ℕ) → Text → ℕ
hidden_by a z = if nat_lt a 32 || a == 127 then 1 else hidden_two a z

-- the text after some bytes, with one question mark for each such character
abbrev pub shown_byte : (hidden : ℕ) → ℕ → ℕ
shown_byte hidden b = if hidden == 0 then b else 63

abbrev pub shown_after : (skipped : ℕ) → Text → Text
shown_after skipped [] = []
shown_after zero (b ∷ z) = shown_byte (hidden_by b z) b ∷ shown_after (hidden_by b z - 1) z
shown_after (suc k) (b ∷ z) = shown_after k z

-- A text as it is shown.
unfoldable pub shown : Text → Text
shown z = shown_after 0 z
