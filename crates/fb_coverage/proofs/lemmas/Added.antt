-- Flags that are set in addition to others, one after another.
use Rattle.fb_types.proofs.Common.{◌≡◌, ◌≢◌, ◌<◌, ◌⊎◌, ◌↔◌, ℕ, Bool, true, false, List, [], get_or, length, set, inl, inr, refl, sym, ◌∙◌, ap, subst, cases_eq, cases_lt, get_or-set_other, get_or-set_same, get_or_past, length-set, unwrap_or-slice_get}
use Rattle.std.proofs.lemmas.List.{set_past}
use Rattle.fb_coverage.specs.Additions.{AddsFlags}
use Rattle.fb_coverage.specs.Tables.{is_set, row_of, with_flag}
use Rattle.fb_coverage.specs.declared.table.Table.{Table}

-- ---- None, and one after another

pub adds_none : (P : ℕ → ℕ → Type 0) (a b : Table) → b ≡ a → ((i k : ℕ) → P i k → ⊥) → AddsFlags P a b
adds_none P a b same none =
    let Q : Table → Type 0 = λ t. AddsFlags P a t in
    subst Q (sym same) (record { rows = refl; widths = λ i. refl; exact = λ i k within. (λ h. inl h, λ h. elim h [ inl was ↦ was | inr new ↦ absurd (none i k new) ]) })

pub adds_both : (P Q : ℕ → ℕ → Type 0) (a b c : Table) → AddsFlags P a b → AddsFlags Q b c → AddsFlags (λ i k. P i k ⊎ Q i k) a c
adds_both P Q a b c first second = record {
  rows = second.rows ∙ first.rows;
  widths = λ i. second.widths i ∙ first.widths i;
  exact = λ i k within.
      let inside : k < length (row_of b i) = subst (λ n. k < n) (sym (first.widths i)) within in
      let one = first.exact i k within in
      let two = second.exact i k inside in (
        λ h. elim (two.0 h) [
          | inl was ↦ elim (one.0 was) [ inl old ↦ inl old | inr p ↦ inr (inl p) ]
          | inr q ↦ inr (inr q)
        ],
        λ h. elim h [
          | inl old ↦ two.1 (inl (one.1 (inl old)))
          | inr new ↦ elim new [ inl p ↦ two.1 (inl (one.1 (inr p))) | inr q ↦ two.1 (inr q) ]
        ],
      );
}

-- flags that are set for one condition are set for an equivalent one
pub adds_by : (P Q : ℕ → ℕ → Type 0) (a b : Table) → AddsFlags P a b → ((i k : ℕ) → P i k → Q i k) → ((i k : ℕ) → Q i k → P i k) → AddsFlags Q a b
adds_by P Q a b adds there back = record {
  rows = adds.rows;
  widths = adds.widths;
  exact = λ i k within.
      let one = adds.exact i k within in (
        λ h. elim (one.0 h) [ inl was ↦ inl was | inr p ↦ inr (there i k p) ],
        λ h. elim h [ inl was ↦ one.1 (inl was) | inr q ↦ one.1 (inr (back i k q)) ],
      );
}

-- ---- One flag

-- an element that is changed, or that is past the end and stays
changed : (rows : List (List Bool)) (i k : ℕ) → get_or (set rows i (set (get_or rows i []) k true)) i [] ≡ set (get_or rows i []) k true
changed rows i k =
    elim (cases_lt i (length rows)) [
      | inl within ↦ get_or-set_same rows i (set (get_or rows i []) k true) [] within
      | inr past ↦
          let none : get_or rows i [] ≡ [] = get_or_past rows i [] past in
          ap (λ (l : List (List Bool)). get_or l i []) (set_past rows i (set (get_or rows i []) k true) past) ∙ none ∙ ap (λ (l : List Bool). set l k true) (sym none)
    ]

row_is : (t : Table) (i : ℕ) → row_of t i ≡ get_or t.rows i []
row_is t i = unwrap_or-slice_get t.rows i []

flag_is : (flags : List Bool) (k : ℕ) → is_set flags k ≡ get_or flags k false
flag_is flags k = unwrap_or-slice_get flags k false

rows_are : (t : Table) (i k : ℕ) → (with_flag t i k).rows ≡ set t.rows i (set (get_or t.rows i []) k true)
rows_are t i k = ap (λ (l : List Bool). set t.rows i (set l k true)) (row_is t i)

own_row : (t : Table) (i k : ℕ) → row_of (with_flag t i k) i ≡ set (row_of t i) k true
own_row t i k =
    row_is (with_flag t i k) i ∙ ap (λ (l : List (List Bool)). get_or l i []) (rows_are t i k) ∙ changed t.rows i k ∙ ap (λ (l : List Bool). set l k true) (sym (row_is t i))

other_row : (t : Table) (i k r : ℕ) → r ≢ i → row_of (with_flag t i k) r ≡ row_of t r
other_row t i k r apart =
    row_is (with_flag t i k) r ∙ ap (λ (l : List (List Bool)). get_or l r []) (rows_are t i k)
    ∙ get_or-set_other t.rows i r (set (get_or t.rows i []) k true) [] apart ∙ sym (row_is t r)

own_flag : (flags : List Bool) (k : ℕ) → k < length flags → is_set (set flags k true) k ≡ true
own_flag flags k within = flag_is (set flags k true) k ∙ get_or-set_same flags k true false within

other_flag : (flags : List Bool) (k c : ℕ) → c ≢ k → is_set (set flags k true) c ≡ is_set flags c
other_flag flags k c apart = flag_is (set flags k true) c ∙ get_or-set_other flags k c true false apart ∙ sym (flag_is flags c)

-- the flags of a row in which one is set
row_exact : (flags : List Bool) (i r k c : ℕ) → r ≡ i → c < length flags → (is_set (set flags k true) c ≡ true) ↔ ((is_set flags c ≡ true) ⊎ ((r ≡ i) × (c ≡ k)))
row_exact flags i r k c here within =
    elim (cases_eq c k) [
      | inl same ↦
          let inside : k < length flags = subst (λ n. n < length flags) same within in
          let on : is_set (set flags k true) c ≡ true = ap (is_set (set flags k true)) same ∙ own_flag flags k inside in
          (λ h. inr (here, same), λ h. on)
      | inr apart ↦
          let stays : is_set (set flags k true) c ≡ is_set flags c = other_flag flags k c apart in (
            λ h. inl (sym stays ∙ h),
            λ h. elim h [ inl was ↦ stays ∙ was | inr both ↦ absurd (apart both.1) ],
          )
    ]

-- one flag is set, if there is one
pub adds_one : (t : Table) (i k : ℕ) → AddsFlags (λ r c. (r ≡ i) × (c ≡ k)) t (with_flag t i k)
adds_one t i k = record {
  rows = length-set t.rows i (set (row_of t i) k true);
  widths = λ r. elim (cases_eq r i) [
    | inl here ↦
        let P : ℕ → Type 0 = λ n. length (row_of (with_flag t i k) n) ≡ length (row_of t n) in
        subst P (sym here) (ap (λ (l : List Bool). length l) (own_row t i k) ∙ length-set (row_of t i) k true)
    | inr apart ↦ ap (λ (l : List Bool). length l) (other_row t i k r apart)
  ];
  exact = λ r c within. elim (cases_eq r i) [
    | inl here ↦
        let P : ℕ → Type 0 = λ n. c < length (row_of t n) → (is_set (row_of (with_flag t i k) n) c ≡ true) ↔ ((is_set (row_of t n) c ≡ true) ⊎ ((n ≡ i) × (c ≡ k))) in
        let own : P i = λ inside.
        subst (λ (l : List Bool). (is_set l c ≡ true) ↔ ((is_set (row_of t i) c ≡ true) ⊎ ((i ≡ i) × (c ≡ k)))) (sym (own_row t i k)) (row_exact (row_of t i) i i k c refl inside) in
        subst P (sym here) own within
    | inr apart ↦
        let stays : is_set (row_of (with_flag t i k) r) c ≡ is_set (row_of t r) c = ap (λ (l : List Bool). is_set l c) (other_row t i k r apart) in (
          λ h. inl (sym stays ∙ h),
          λ h. elim h [ inl was ↦ stays ∙ was | inr both ↦ absurd (apart both.0) ],
        )
  ];
}
