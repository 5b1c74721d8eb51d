-- Assignments to the variable of a slot.
use Rattle.fb_st.proofs.lemmas.Common.{◌≡◌, ℕ, ℤ, suc, ◌<◌, ◌&&◌, Bool, true, false, length, List, [], ◌∷◌, zero, map, Option, Some, None, Ok, Err, refl, sym, ◌∙◌, ap, subst, arith, slice_get, slice_set, int_le, pos, ◌+ℤ◌, false≢true, ints, Name, with_value, Twice, Assign, Types, Values, value_of, fits, whole, End, Advances, passed, Went, Left, Stopped, Runs, Ty, Value, Reason, Expr, Declared, types_in, word_at, values_at, value_of_word, name_at, ty_or, is_within_type, is_truth_type}
use Rattle.fb_types.proofs.Common.{Ends, Either, Assigns}
use Rattle.std.specs.Prelude.{◌≤ℤ◌}
use mir.Syntax.{w64}
use mir.Val.{SFits}
use Rattle.fb_types.specs.Values.{same_whole}
use Rattle.fb_types.specs.declared.value.Ty.TheVariants as ty
use Rattle.fb_types.specs.declared.value.Value.TheVariants as value
use Rattle.fb_types.specs.declared.value.Reason.TheVariants as reason
use Rattle.fb_st.specs.Variables.{least_of, most_of}
use Rattle.fb_st.specs.Compiled.{unsigned_of, truth_of_word}
use Rattle.fb_st.specs.Fitting.{ty_at, is_long_type}
use Rattle.fb_st.proofs.lemmas.Comes.{both_true}
use Rattle.fb_st.proofs.lemmas.Ranges.{between}
use Rattle.fb_st.proofs.lemmas.Runs.{assigns, assigns_not}
use Rattle.fb_st.proofs.lemmas.Words.{word_read, word_type, word_written}

-- an expression that has no value stops the assignment
pub assign_stops : (T : Types) (n : Name) (e : Expr) (vars : Values) (r : Reason) → value_of e vars ≡ Err r → (left : ℕ)
    → Runs T (Assign n e) (record { vars = vars; left = suc left }) (Stopped r) (record { vars = vars; left = left })
assign_stops T n e vars r is left = rw is (refl, refl)

module _ (ds : List Declared) (ws : List ℤ) (len : length ws ≡ length ds) (once : ¬ (Twice (map (λ d. d.0) ds))) (i : ℕ) (d : Declared) (at : slice_get ds i ≡ Some d) (e : Expr) where
  -- the word that represents the value is written
  pub assign_writes : (z : ℤ) (v : Value) → value_of e (values_at ds ws) ≡ Ok v → fits d.1 v ≡ true → value_of_word d.1 z ≡ v → (left : ℕ)
      → Runs (types_in ds) (Assign (name_at ds i) e) (record { vars = values_at ds ws; left = suc left }) Went (record { vars = values_at ds (slice_set ws i z); left = left })
  assign_writes z v is fit stands left =
      rw is
      (assigns (types_in ds) (name_at ds i) v (values_at ds ws) (values_at ds (slice_set ws i z)) left
      (ap (λ t. fits t v) (word_type ds ws len once i d at) ∙ fit)
      (word_written ds ws len once i d at z ∙ ap (λ w. with_value (name_at ds i) w (values_at ds ws)) stands))

  pub assign_refused : (v : Value) → value_of e (values_at ds ws) ≡ Ok v → fits d.1 v ≡ false → (left : ℕ)
      → Runs (types_in ds) (Assign (name_at ds i) e) (record { vars = values_at ds ws; left = suc left }) (Stopped reason.Range) (record { vars = values_at ds ws; left = left })
  assign_refused v is fit left =
      rw is
      (assigns_not (types_in ds) (name_at ds i) v (values_at ds ws) left
      (ap (λ t. fits t v) (word_type ds ws len once i d at) ∙ fit))

-- ---- Slots, by their types

pub there : (ds : List Declared) (i : ℕ) → i < length ds → (d : Declared) × (slice_get ds i ≡ Some d)
there [] i within = absurd (omega (arith, within))
there (e ∷ ds) zero within = (e, refl)
there (e ∷ ds) (suc i) within = there ds i (omega arith)

-- a slot with a truth value: its word is 1 or 0
pub truth_slot : (o : Option Declared) → is_truth_type o ≡ true → (b : Bool) (z : ℤ) → truth_of_word z ≡ b
    → (d : Declared) × (o ≡ Some d) × (fits d.1 (value.Bool b) ≡ true) × (value_of_word d.1 z ≡ value.Bool b)
truth_slot None h b z is = absurd (false≢true h)
truth_slot (Some d) h b z is =
    let parts = truth_type d.1 d.0 h b z is in
    (d, refl, parts.0, parts.1) where
      truth_type : (t : Ty) (n : Name) → is_truth_type (Some (n, t)) ≡ true → (b : Bool) (z : ℤ) → truth_of_word z ≡ b → (fits t (value.Bool b) ≡ true) × (value_of_word t z ≡ value.Bool b)
      truth_type ty.Bool n h b z is = (refl, ap (λ x. value.Bool x) is)
      truth_type ty.Lint n h b z is = absurd (false≢true h)
      truth_type ty.Time n h b z is = absurd (false≢true h)
      truth_type ty.Ulint n h b z is = absurd (false≢true h)
      truth_type ty.Sint n h b z is = absurd (false≢true h)
      truth_type ty.Int n h b z is = absurd (false≢true h)
      truth_type ty.Dint n h b z is = absurd (false≢true h)
      truth_type ty.Usint n h b z is = absurd (false≢true h)
      truth_type ty.Uint n h b z is = absurd (false≢true h)
      truth_type ty.Udint n h b z is = absurd (false≢true h)

-- a slot that has a type is one of the layout
pub truth_slot_within : (ds : List Declared) (i : ℕ) → is_truth_type (slice_get ds i) ≡ true → i < length ds
truth_slot_within [] i h = absurd (false≢true h)
truth_slot_within (e ∷ ds) zero h = omega arith
truth_slot_within (e ∷ ds) (suc i) h = let rest = truth_slot_within ds i h in omega arith

long_fits : (t : Ty) (n : Name) → is_long_type (Some (n, t)) ≡ true → (z : ℤ) → int_le (least_of t) z ≡ true → int_le z (most_of t) ≡ true → (fits t (value.Whole z) ≡ true) × (value_of_word t z ≡ value.Whole z)
long_fits ty.Lint n h z low high = (between ty.Lint z low high, refl)
long_fits ty.Time n h z low high = (between ty.Time z low high, refl)
long_fits ty.Bool n h z low high = absurd (false≢true h)
long_fits ty.Ulint n h z low high = absurd (false≢true h)
long_fits ty.Sint n h z low high = absurd (false≢true h)
long_fits ty.Int n h z low high = absurd (false≢true h)
long_fits ty.Dint n h z low high = absurd (false≢true h)
long_fits ty.Usint n h z low high = absurd (false≢true h)
long_fits ty.Uint n h z low high = absurd (false≢true h)
long_fits ty.Udint n h z low high = absurd (false≢true h)

long_range : (t : Ty) (n : Name) → is_long_type (Some (n, t)) ≡ true → (z : ℤ) → SFits w64 z → (int_le (least_of t) z ≡ true) × (int_le z (most_of t) ≡ true)
long_range ty.Lint n h z fit = (grind (arith, ints), grind (arith, ints))
long_range ty.Time n h z fit = (grind (arith, ints), grind (arith, ints))
long_range ty.Bool n h z fit = absurd (false≢true h)
long_range ty.Ulint n h z fit = absurd (false≢true h)
long_range ty.Sint n h z fit = absurd (false≢true h)
long_range ty.Int n h z fit = absurd (false≢true h)
long_range ty.Dint n h z fit = absurd (false≢true h)
long_range ty.Usint n h z fit = absurd (false≢true h)
long_range ty.Uint n h z fit = absurd (false≢true h)
long_range ty.Udint n h z fit = absurd (false≢true h)

-- each number of 64 bits is one of the type, and its own word
pub long_slot : (o : Option Declared) → is_long_type o ≡ true → (z : ℤ) → SFits w64 z → (d : Declared) × (o ≡ Some d) × (fits d.1 (value.Whole z) ≡ true) × (value_of_word d.1 z ≡ value.Whole z)
long_slot None h z fit = absurd (false≢true h)
long_slot (Some d) h z fit =
    let range = long_range d.1 d.0 h z fit in
    let parts = long_fits d.1 d.0 h z range.0 range.1 in
    (d, refl, parts.0, parts.1)

unsigned_same : (z : ℤ) → int_le (pos 0) z ≡ true → unsigned_of z ≡ z
unsigned_same z h = grind (arith, ints)

within_word : (t : Ty) (n : Name) (least most : ℤ) → is_within_type least most (Some (n, t)) ≡ true → (z : ℤ) → int_le (least_of t) z ≡ true → value_of_word t z ≡ value.Whole z
within_word ty.Bool n least most h z low = absurd (false≢true h)
within_word ty.Ulint n least most h z low = ap (λ x. value.Whole x) (unsigned_same z low)
within_word ty.Lint n least most h z low = refl
within_word ty.Time n least most h z low = refl
within_word ty.Sint n least most h z low = refl
within_word ty.Int n least most h z low = refl
within_word ty.Dint n least most h z low = refl
within_word ty.Usint n least most h z low = refl
within_word ty.Uint n least most h z low = refl
within_word ty.Udint n least most h z low = refl

within_parts : (t : Ty) (n : Name) (least most : ℤ) → is_within_type least most (Some (n, t)) ≡ true → (same_whole least (least_of t) && same_whole most (most_of t)) ≡ true
within_parts ty.Bool n least most h = absurd (false≢true h)
within_parts ty.Ulint n least most h = h
within_parts ty.Lint n least most h = h
within_parts ty.Time n least most h = h
within_parts ty.Sint n least most h = h
within_parts ty.Int n least most h = h
within_parts ty.Dint n least most h = h
within_parts ty.Usint n least most h = h
within_parts ty.Uint n least most h = h
within_parts ty.Udint n least most h = h

below_least : (least low z : ℤ) → same_whole least low ≡ true → least ≤ℤ z → int_le low z ≡ true
below_least least low z same h = grind (arith, ints)

above_most : (most high z : ℤ) → same_whole most high ≡ true → z ≤ℤ most → int_le z high ≡ true
above_most most high z same h = grind (arith, ints)

-- each number from the least to the most is one of the type, and its own word
pub within_slot : (o : Option Declared) (least most : ℤ) → is_within_type least most o ≡ true → (z : ℤ) → least ≤ℤ z → z ≤ℤ most
    → (d : Declared) × (o ≡ Some d) × (fits d.1 (value.Whole z) ≡ true) × (value_of_word d.1 z ≡ value.Whole z)
within_slot None least most h z low high = absurd (false≢true h)
within_slot (Some d) least most h z low high =
    let parts = both_true (same_whole least (least_of d.1)) (same_whole most (most_of d.1)) (within_parts d.1 d.0 least most h) in
    let from = below_least least (least_of d.1) z parts.0 low in
    let to = above_most most (most_of d.1) z parts.1 high in
    (d, refl, between d.1 z from to, within_word d.1 d.0 least most h z from)

-- a number from the least on is its own word
pub low_word : (o : Option Declared) (least most : ℤ) → is_within_type least most o ≡ true → (z : ℤ) → least ≤ℤ z → (d : Declared) × (o ≡ Some d) × (value_of_word d.1 z ≡ value.Whole z)
low_word None least most h z low = absurd (false≢true h)
low_word (Some d) least most h z low =
    let parts = both_true (same_whole least (least_of d.1)) (same_whole most (most_of d.1)) (within_parts d.1 d.0 least most h) in
    (d, refl, within_word d.1 d.0 least most h z (below_least least (least_of d.1) z parts.0 low))

pub within_slot_there : (ds : List Declared) (i : ℕ) (least most : ℤ) → is_within_type least most (slice_get ds i) ≡ true → i < length ds
within_slot_there [] i least most h = absurd (false≢true h)
within_slot_there (e ∷ ds) zero least most h = omega arith
within_slot_there (e ∷ ds) (suc i) least most h = let rest = within_slot_there ds i least most h in omega arith

pub long_slot_there : (ds : List Declared) (i : ℕ) → is_long_type (slice_get ds i) ≡ true → i < length ds
long_slot_there [] i h = absurd (false≢true h)
long_slot_there (e ∷ ds) zero h = omega arith
long_slot_there (e ∷ ds) (suc i) h = let rest = long_slot_there ds i h in omega arith

-- ---- The next value of the variable of FOR

module _ (T : Types) (n : Name) (end step : ℤ) (vars : Values) (left : ℕ) (z : ℤ) (is : whole (vars n) +ℤ step ≡ z) where
  abbrev Next : ℤ → End → Values → Type 0
  Next x e after = Either (passed end step x) (λ p f q. Ends p Left f q) (Assigns T n (value.Whole x)) (record { vars = vars; left = left }) e (record { vars = after; left = left })

  pub advances_to : (after : Values) → passed end step z ≡ false → fits (T n) (value.Whole z) ≡ true → after ≡ with_value n (value.Whole z) vars
      → Advances T n end step (record { vars = vars; left = left }) Went (record { vars = after; left = left })
  advances_to after within fit set =
      subst (λ (x : ℤ). Next x Went after) (sym is) (rw within (assigns T n (value.Whole z) vars after left fit set))

  pub advances_past : passed end step z ≡ true → Advances T n end step (record { vars = vars; left = left }) Left (record { vars = vars; left = left })
  advances_past past = subst (λ (x : ℤ). Next x Left vars) (sym is) (rw past (refl, refl))

  pub advances_not : passed end step z ≡ false → fits (T n) (value.Whole z) ≡ false → Advances T n end step (record { vars = vars; left = left }) (Stopped reason.Range) (record { vars = vars; left = left })
  advances_not within fit =
      subst (λ (x : ℤ). Next x (Stopped reason.Range) vars) (sym is) (rw within (assigns_not T n (value.Whole z) vars left fit))

-- ---- The number of the variable of FOR, read by its word

pub whole_read :
    (ds : List Declared) (ws : List ℤ) (len : length ws ≡ length ds) (once : ¬ (Twice (map (λ d. d.0) ds))) (i : ℕ) (d : Declared) (at : slice_get ds i ≡ Some d) (z number : ℤ) → z ≡ word_at ws i
    → number ≡ whole (value_of_word (ty_at ds i) z) → whole (values_at ds ws (name_at ds i)) ≡ number
whole_read ds ws len once i d at z number read is =
    ap whole (word_read ds ws len once i d at)
    ∙ ap (λ t. whole (value_of_word t (word_at ws i))) (sym (ap ty_or at))
    ∙ ap (λ x. whole (value_of_word (ty_at ds i) x)) (sym read) ∙ sym is
