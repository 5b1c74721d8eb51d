-- Rows that begin with the digits of their numbers (this project's profile).
use Rattle.std.specs.Prelude.{◌≡◌, ◌<◌, ◌≤◌, ℕ, List, decimal, length, slice_index_or, take}
use Rattle.fb_trace.specs.declared.digit_rows.DigitRow.{DigitRow}

-- If the row is made, it begins with the digits of the number.
pub record IsRowOf (n : ℕ) (r : DigitRow) : Type 0 where
  pub within : r.width ≤ 4
  pub digits : 0 < r.width → take r.width r.text ≡ decimal n

-- The row of a number is made.
abbrev pub IsMade : List DigitRow → (n : ℕ) → Type 0
IsMade rows n = (d : DigitRow) → 0 < (slice_index_or rows n d).width

-- Each row is that of its index.
abbrev pub AreRows : List DigitRow → Type 0
AreRows rows = (n : ℕ) (d : DigitRow) → n < length rows → IsRowOf n (slice_index_or rows n d)
