-- Which flags are set in addition to others (this project's own).
use Rattle.std.specs.Prelude.{◌≡◌, ◌<◌, ◌⊎◌, ◌↔◌, ℕ, true, length}
use Rattle.fb_coverage.specs.Tables.{is_set, row_of}
use Rattle.fb_coverage.specs.declared.table.Table.{Table}

-- A table has the flags of another one. A flag is set exactly where it was, or where this holds of its row and its column.
pub record AddsFlags (holds : (row column : ℕ) → Type 0) (old new : Table) : Type 0 where
  pub rows : length new.rows ≡ length old.rows
  pub widths : (i : ℕ) → length (row_of new i) ≡ length (row_of old i)
  pub exact : (i k : ℕ) → k < length (row_of old i) → (is_set (row_of new i) k ≡ true) ↔ ((is_set (row_of old i) k ≡ true) ⊎ holds i k)
