-- Rows that are found by their ranges: those of an instance stand together, and those of one side before those of the
-- other.
use Rattle.std.specs.Prelude.{◌≡◌, ◌<◌, ◌+◌, ℕ, Bool, List, Some, if◌then◌else◌, slice_get, slice_index_or}
use Rattle.fb_system.specs.declared.row_ranges.RowRanges.{RowRanges}

-- the first row of a side, and the row after its last one
abbrev pub first_of : RowRanges → (second : Bool) → ℕ
first_of p second = slice_index_or p.bounds (if second then 1 else 0) 0

abbrev pub end_of : RowRanges → (second : Bool) → ℕ
end_of p second = slice_index_or p.bounds (if second then 2 else 1) 0

-- The row at an index is as a property says.
abbrev pub HasRow : {A : Type 0} → (A → Type 0) → List A → (index : ℕ) → Type 0
HasRow {A} P rows k = (r : A) × (slice_get rows k ≡ Some r) × P r

-- From one row on, and up to another, each row is as a property says of its index among them.
abbrev pub HasRows : {A : Type 0} → (ℕ → A → Type 0) → List A → (first : ℕ) → (end : ℕ) → Type 0
HasRows {A} P rows first end = (index : ℕ) → first + index < end → HasRow (P index) rows (first + index)

-- Each row of an instance is as a property says of its side, and of its index among those of the side.
abbrev pub AreAt : {A : Type 0} → (Bool → ℕ → A → Type 0) → List A → RowRanges → Type 0
AreAt {A} P rows p = (second : Bool) → HasRows (P second) rows (first_of p second) (end_of p second)

-- Each row of each instance that has ranges is as a property says.
abbrev pub AreInRanges : {A : Type 0} → (ℕ → Bool → ℕ → A → Type 0) → List A → List RowRanges → Type 0
AreInRanges {A} P rows ranges = (i : ℕ) (p : RowRanges) → slice_get ranges i ≡ Some p → AreAt (P i) rows p

-- all rows are still there, each at its index
abbrev pub Keeps : {A : Type 0} → List A → List A → Type 0
Keeps {A} old new = (k : ℕ) (r : A) → slice_get old k ≡ Some r → slice_get new k ≡ Some r
