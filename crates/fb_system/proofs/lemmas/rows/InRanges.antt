-- Rows that are found by their ranges: how they are found, and how rows are added.
use Rattle.fb_types.proofs.Common.{◌≡◌, ℕ, zero, suc, Bool, true, false, ◌<◌, ◌+◌, List, [], ◌∷◌, ◌++◌, length, length-append, get_or, Some, ◌⊎◌, inl, inr, refl, sym, ◌∙◌, ap, subst, arith, min, slice_get, same_Some, slice_get-get_or, slice_get_within}
use Rattle.fb_types.proofs.lemmas.lists.ByIndex.{slice_get-append_here, slice_get-append_left, slice_get-push}
use Rattle.fb_system.specs.RowRanges.{AreAt, AreInRanges, HasRow, HasRows, Keeps, end_of, first_of}
use Rattle.fb_system.specs.declared.row_ranges.RowRanges.{RowRanges}

-- ---- Reading

pub row_in_range :
    {A : Type 0} (P : ℕ → Bool → ℕ → A → Type 0) (rows : List A) (ranges : List RowRanges) (i : ℕ) (side : Bool) (index k : ℕ) (p : RowRanges) → AreInRanges P rows ranges
    → slice_get ranges i ≡ Some p → k ≡ first_of p side + index → k < end_of p side → HasRow (P i side index) rows k
row_in_range P rows ranges i side index k p all at here within =
    let row = all i p at side index (subst (λ n. n < end_of p side) here within) in
    (row.0, ap (slice_get rows) here ∙ row.1, row.2)

pub row_within : {A : Type 0} (P : A → Type 0) (rows : List A) (k : ℕ) → HasRow P rows k → k < length rows
row_within P rows k row = slice_get_within rows k row.0 row.1

pub row_is : {A : Type 0} (P : A → Type 0) (rows : List A) (k : ℕ) (r : A) → HasRow P rows k → slice_get rows k ≡ Some r → P r
row_is P rows k r row there = subst P (same_Some row.0 r (sym row.1 ∙ there)) row.2

-- a row that was read from a slice of all rows
pub found_within :
    {A : Type 0} (P : ℕ → Bool → ℕ → A → Type 0) (rows slice : List A) (ranges : List RowRanges) (i : ℕ) (side : Bool) (index k : ℕ) (p : RowRanges) → slice ≡ rows
    → AreInRanges P rows ranges → slice_get ranges i ≡ Some p → k ≡ first_of p side + index → k < end_of p side → k < length slice
found_within {A} P rows slice ranges i side index k p same all at here within =
    subst (λ (l : List A). k < length l) (sym same) (row_within (P i side index) rows k (row_in_range P rows ranges i side index k p all at here within))

pub found :
    {A : Type 0} (P : ℕ → Bool → ℕ → A → Type 0) (rows slice : List A) (ranges : List RowRanges) (i : ℕ) (side : Bool) (index k : ℕ) (p : RowRanges) (d : A) → slice ≡ rows
    → AreInRanges P rows ranges → slice_get ranges i ≡ Some p → k ≡ first_of p side + index → k < end_of p side → P i side index (get_or slice k d)
found {A} P rows slice ranges i side index k p d same all at here within =
    row_is (P i side index) rows k (get_or slice k d) (row_in_range P rows ranges i side index k p all at here within)
    (ap (λ (l : List A). slice_get l k) (sym same) ∙ slice_get-get_or slice k d (found_within P rows slice ranges i side index k p same all at here within))

-- ---- Adding rows

pub none_in_ranges : {A : Type 0} (P : ℕ → Bool → ℕ → A → Type 0) (rows : List A) (ranges : List RowRanges) → ranges ≡ [] → AreInRanges P rows ranges
none_in_ranges P rows ranges none = λ i p at.
    absurd
    (let past : slice_get {X = RowRanges} [] i ≡ Some p = ap (λ (l : List RowRanges). slice_get l i) (sym none) ∙ at in
    omega (arith, slice_get_within {A = RowRanges} [] i p past))

pub keeps_push : {A : Type 0} (old rows : List A) (r : A) → Keeps old rows → Keeps old (rows ++ r ∷ [])
keeps_push old rows r kept = λ k x at. slice_get-append_left rows (r ∷ []) k x (kept k x at)

one_of : (k n : ℕ) → k < n + 1 → (k < n) ⊎ (k ≡ n)
one_of zero zero within = inr refl
one_of zero (suc n) within = inl (omega arith)
one_of (suc k) zero within = absurd (omega (arith, within))
one_of (suc k) (suc n) within =
    elim (one_of k n (omega (arith, within))) [
      | inl less ↦ inl (omega (arith, less))
      | inr same ↦ inr (ap suc same)
    ]

-- one row more
pub rows_push :
    {A : Type 0} (P : ℕ → A → Type 0) (rows : List A) (r : A) (first count : ℕ) → length rows ≡ first + count → HasRows P rows first (length rows) → P count r
    → HasRows P (rows ++ r ∷ []) first (length (rows ++ r ∷ []))
rows_push {A} P rows r first count long has own index within =
    let longer : length (rows ++ r ∷ []) ≡ length rows + 1 = length-append rows (r ∷ []) in
    elim (one_of index count (omega (arith, long, longer, within))) [
      | inl before ↦ let x = has index (omega (arith, long, before)) in (x.0, slice_get-append_left rows (r ∷ []) (first + index) x.0 x.1, x.2)
      | inr last ↦
          let here : length rows ≡ first + index = omega (arith, long, last) in
          (r, subst (λ k. slice_get (rows ++ r ∷ []) k ≡ Some r) here (slice_get-append_here rows r), subst (λ n. P n r) (sym last) own)
    ]

rows_kept : {A : Type 0} (P : ℕ → A → Type 0) (old new : List A) (first end : ℕ) → HasRows P old first end → Keeps old new → HasRows P new first end
rows_kept P old new first end has kept = λ index within. let x = has index within in (x.0, kept (first + index) x.0 x.1, x.2)

-- a bound of a range is the number of rows before it, or the most if that is fewer: in both cases no row is promised
-- that is not there
rows_capped :
    {A : Type 0} (P : ℕ → A → Type 0) (rows : List A) (first end most f g : ℕ) → HasRows P rows first end → f ≡ min first most → g ≡ min end most → HasRows P rows f g
rows_capped P rows first end most f g has begins ends = λ index within.
    let here : first ≡ f = omega (arith, begins, ends, within) in
    let x = has index (omega (arith, begins, ends, within)) in
    (x.0, subst (λ n. slice_get rows (n + index) ≡ Some x.0) here x.1, x.2)

pub capped : (bound many rows most : ℕ) → bound ≡ min many most → many ≡ rows → bound ≡ min rows most
capped bound many rows most is counted = is ∙ ap (λ (n : ℕ). min n most) counted

-- the rows of one side, and then those of the other
sides_at :
    {A : Type 0} (P : Bool → ℕ → A → Type 0) (half rows : List A) (start most : ℕ) (p : RowRanges) → HasRows (P false) half start (length half) → Keeps half rows
    → HasRows (P true) rows (length half) (length rows) → get_or p.bounds 0 0 ≡ min start most → get_or p.bounds 1 0 ≡ min (length half) most → get_or p.bounds 2 0 ≡ min (length rows) most → AreAt P rows p
sides_at P half rows start most p one kept other first second end false =
    rows_capped (P false) rows start (length half) most (get_or p.bounds 0 0) (get_or p.bounds 1 0) (rows_kept (P false) half rows start (length half) one kept) first second
sides_at P half rows start most p one kept other first second end true = rows_capped (P true) rows (length half) (length rows) most (get_or p.bounds 1 0) (get_or p.bounds 2 0) other second end

-- the rows of one instance more
pub instance_in_ranges :
    {A : Type 0} (P : ℕ → Bool → ℕ → A → Type 0) (old half rows : List A) (ranges : List RowRanges) (i most : ℕ) (p : RowRanges) → AreInRanges P old ranges
    → length ranges ≡ i → Keeps old half → HasRows (P i false) half (length old) (length half) → Keeps half rows → HasRows (P i true) rows (length half) (length rows)
    → get_or p.bounds 0 0 ≡ min (length old) most → get_or p.bounds 1 0 ≡ min (length half) most → get_or p.bounds 2 0 ≡ min (length rows) most → AreInRanges P rows (ranges ++ p ∷ [])
instance_in_ranges {A} P old half rows ranges i most p all last kept one kept_on other first second end =
    slice_get-push (λ n (q : RowRanges). AreAt (P n) rows q) ranges p
    (λ n q at side. rows_kept (P n side) old rows (first_of q side) (end_of q side) (all n q at side) (λ k r there. kept_on k r (kept k r there)))
    (subst (λ n. AreAt (P n) rows p) (sym last) (sides_at (P i) half rows (length old) most p one kept_on other first second end))
