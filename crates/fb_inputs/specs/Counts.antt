-- Offsets of a text, and how many of them pass a test (this project's own).
use Rattle.std.specs.Prelude.{◌≡◌, ◌<◌, ℕ, zero, suc, ◌+◌, Bool, true, ◌&&◌, ◌==◌, if◌then◌else◌, List, length, slice_index}

abbrev pub Text : Type 0
Text = List ℕ

-- the byte at an offset, or 0 past the end
abbrev pub at : Text → ℕ → ℕ
at = slice_index

-- the length of a byte order mark at the beginning
abbrev pub mark_len : Text → ℕ
mark_len text = if (at text 0 == 0xEF) && ((at text 1 == 0xBB) && (at text 2 == 0xBF)) then 3 else 0

-- how many of the offsets below a bound pass a test
unfoldable pub count_below : (ℕ → Bool) → ℕ → ℕ
count_below test zero = 0
count_below test (suc n) = if test n then count_below test n + 1 else count_below test n

-- The offset is in the text and passes the test, and this many offsets before it pass it.
pub record IsNth (text : Text) (test : ℕ → Bool) (index offset : ℕ) : Type 0 where
  pub within : offset < length text
  pub passes : test offset ≡ true
  pub before : count_below test offset ≡ index
