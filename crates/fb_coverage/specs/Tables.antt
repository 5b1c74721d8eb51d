-- Flags in rows (this project's profile).
use Rattle.std.specs.Prelude.{ℕ, List, [], Bool, true, false, slice_get, slice_set, unwrap_or}
use Rattle.fb_coverage.specs.declared.table.Table.{Table}

-- Whether a flag is set; where there is none, it is not.
abbrev pub is_set : List Bool → ℕ → Bool
is_set flags k = unwrap_or (slice_get flags k) false

-- the flags of the thing at an index
abbrev pub row_of : Table → ℕ → List Bool
row_of t i = unwrap_or (slice_get t.rows i) []

-- one more flag is set, if there is one
abbrev pub with_flag : Table → (row column : ℕ) → Table
with_flag t i k = record { rows = slice_set t.rows i (slice_set (row_of t i) k true) }
