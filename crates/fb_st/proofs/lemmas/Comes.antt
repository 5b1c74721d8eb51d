-- A compiled expression has the value of its text.
use Rattle.fb_types.proofs.Common.{◌≡◌, ℕ, ℤ, ◌&&◌, Bool, true, false, length, List, [], ◌∷◌, map, Option, Some, None, Result, Ok, Err, refl, sym, ◌∙◌, ap, slice_get, if◌then◌else◌, codes, pos, neg_ℤ, ◌+ℤ◌, ◌-ℤ◌, not, false≢true, Values, value_of, and_then, binary_value, unary_value, value_if_known, function_named, truth, whole, truth_of, Twice}
use Rattle.fb_types.specs.declared.text.BinaryOperator.{BinaryOperator}
use Rattle.fb_types.specs.declared.value.Ty.{Ty}
use Rattle.fb_types.specs.declared.value.Value.{Value}
use Rattle.fb_types.specs.declared.value.Reason.{Reason}
use Rattle.std.specs.Prelude.{int_div, ◌*ℤ◌}
use Rattle.std.specs.Int.{int_min, int_max}
use Rattle.fb_types.specs.Values.{judged, absolute, within_signed, same_whole}
use Rattle.fb_types.specs.declared.text.UnaryOperator.TheVariants as unary
use Rattle.fb_types.specs.declared.text.BinaryOperator.TheVariants.{Or, Xor, And, Equal, NotEqual, Less, Greater, LessOrEqual, GreaterOrEqual, Add, Subtract, Multiply, Divide, Modulo}
use Rattle.fb_types.specs.declared.value.Ty.TheVariants as ty
use Rattle.fb_types.specs.declared.value.Value.TheVariants as value
use Rattle.fb_types.specs.declared.value.Reason.TheVariants as reason
use Rattle.fb_st.specs.Required.{wholes, as_whole, as_bool, gives_number}
use Rattle.fb_st.specs.Frames.{Declared}
use Rattle.fb_st.specs.Compiled.{Number, Constant, Slot, UnsignedSlot, Binary, Negated, Magnitude, Lesser, Larger, Limited, Chosen, Truth, Known, TruthSlot, Compared, Joined, Not, TruthChosen, number_at, truth_at, two_numbers, two_compared, two_truths, with_two, chosen, is_comparison, is_joint, compared_by, joined_by, word_at, unsigned_of, truth_of_word}
use Rattle.fb_st.specs.Fitting.{values_at, value_of_word, name_at, expr_of_number, expr_of_truth, kinds_number, kinds_truth, is_plain_type, is_unsigned_type, is_truth_type}
use Rattle.fb_st.proofs.lemmas.Words.{word_read}

pub both_true : (a b : Bool) → (a && b) ≡ true → (a ≡ true) × (b ≡ true)
both_true true b h = (refl, h)
both_true false b h = absurd (false≢true h)

-- ---- A result that is a number is the value

again_if : (b : Bool) (r : Result Value Reason) (s : Result Value Reason) → as_whole (wholes r) ≡ r → as_whole (wholes s) ≡ s → as_whole (wholes (if b then r else s)) ≡ (if b then r else s)
again_if true r s e f = e
again_if false r s e f = f

pub again_judged : (z : ℤ) → as_whole (wholes (judged z)) ≡ judged z
again_judged z = again_if (within_signed 127 z) (Ok (value.Whole z)) (Err reason.Range) refl refl

-- an operator that gives a number looks at its operands as numbers
pub again_two : (o : BinaryOperator) (v w : Value) → gives_number o ≡ true → as_whole (wholes (binary_value o (value.Whole (whole v)) (value.Whole (whole w)))) ≡ binary_value o v w
again_two Add v w g = again_judged (whole v +ℤ whole w)
again_two Subtract v w g = again_judged (whole v -ℤ whole w)
again_two Multiply v w g = again_judged (whole v *ℤ whole w)
again_two Divide v w g = again_if (same_whole (whole w) (pos 0)) (Err reason.Divide) (judged (int_div (whole v) (whole w))) refl (again_judged (int_div (whole v) (whole w)))
again_two Modulo v w g =
    again_if (same_whole (whole w) (pos 0)) (judged (pos 0)) (judged (whole v -ℤ (int_div (whole v) (whole w) *ℤ whole w))) (again_judged (pos 0)) (again_judged (whole v -ℤ (int_div (whole v) (whole w) *ℤ whole w)))
again_two Or v w g = absurd (false≢true g)
again_two Xor v w g = absurd (false≢true g)
again_two And v w g = absurd (false≢true g)
again_two Equal v w g = absurd (false≢true g)
again_two NotEqual v w g = absurd (false≢true g)
again_two Less v w g = absurd (false≢true g)
again_two Greater v w g = absurd (false≢true g)
again_two LessOrEqual v w g = absurd (false≢true g)
again_two GreaterOrEqual v w g = absurd (false≢true g)

comparison_of_two : (o : BinaryOperator) (x y : ℤ) → is_comparison o ≡ true → binary_value o (value.Whole x) (value.Whole y) ≡ Ok (value.Bool (compared_by o x y))
comparison_of_two Equal x y g = refl
comparison_of_two NotEqual x y g = refl
comparison_of_two Less x y g = refl
comparison_of_two Greater x y g = refl
comparison_of_two LessOrEqual x y g = refl
comparison_of_two GreaterOrEqual x y g = refl
comparison_of_two Add x y g = absurd (false≢true g)
comparison_of_two Subtract x y g = absurd (false≢true g)
comparison_of_two Multiply x y g = absurd (false≢true g)
comparison_of_two Divide x y g = absurd (false≢true g)
comparison_of_two Modulo x y g = absurd (false≢true g)
comparison_of_two Or x y g = absurd (false≢true g)
comparison_of_two Xor x y g = absurd (false≢true g)
comparison_of_two And x y g = absurd (false≢true g)

joined_two : (o : BinaryOperator) (a b : Bool) → is_joint o ≡ true → binary_value o (value.Bool a) (value.Bool b) ≡ Ok (value.Bool (joined_by o a b))
joined_two Or a b g = refl
joined_two Xor a b g = refl
joined_two And a b g = refl
joined_two Equal a b g = refl
joined_two NotEqual a b g = refl
joined_two Less a b g = absurd (false≢true g)
joined_two Greater a b g = absurd (false≢true g)
joined_two LessOrEqual a b g = absurd (false≢true g)
joined_two GreaterOrEqual a b g = absurd (false≢true g)
joined_two Add a b g = absurd (false≢true g)
joined_two Subtract a b g = absurd (false≢true g)
joined_two Multiply a b g = absurd (false≢true g)
joined_two Divide a b g = absurd (false≢true g)
joined_two Modulo a b g = absurd (false≢true g)

-- ---- Operators and functions, at operands that have the values that they should

binary_numbers : (o : BinaryOperator) (r s : Result ℤ Reason) → gives_number o ≡ true
    → and_then (as_whole r) (λ v. and_then (as_whole s) (λ w. binary_value o v w)) ≡ as_whole (two_numbers o r s)
binary_numbers o (Ok x) (Ok y) g = sym (again_two o (value.Whole x) (value.Whole y) g)
binary_numbers o (Ok x) (Err q) g = refl
binary_numbers o (Err q) s g = refl

binary_compared : (o : BinaryOperator) (r s : Result ℤ Reason) → is_comparison o ≡ true
    → and_then (as_whole r) (λ v. and_then (as_whole s) (λ w. binary_value o v w)) ≡ as_bool (two_compared o r s)
binary_compared o (Ok x) (Ok y) g = comparison_of_two o x y g
binary_compared o (Ok x) (Err q) g = refl
binary_compared o (Err q) s g = refl

binary_truths : (o : BinaryOperator) (r s : Result Bool Reason) → is_joint o ≡ true
    → and_then (as_bool r) (λ v. and_then (as_bool s) (λ w. binary_value o v w)) ≡ as_bool (two_truths o r s)
binary_truths o (Ok a) (Ok b) g = joined_two o a b g
binary_truths o (Ok a) (Err q) g = refl
binary_truths o (Err q) s g = refl

negated_number : (r : Result ℤ Reason) → and_then (as_whole r) (unary_value unary.Negate) ≡ as_whole (and_then r (λ x. wholes (unary_value unary.Negate (value.Whole x))))
negated_number (Ok x) = sym (again_judged (neg_ℤ x))
negated_number (Err q) = refl

not_truth : (r : Result Bool Reason) → and_then (as_bool r) (unary_value unary.Not) ≡ as_bool (and_then r (λ b. Ok (not b)))
not_truth (Ok b) = refl
not_truth (Err q) = refl

abbrev one_value : Result Value Reason → Result (List Value) Reason
one_value r = and_then r (λ v. and_then (Ok []) (λ vs. Ok (v ∷ vs)))

abbrev more_values : Result Value Reason → Result (List Value) Reason → Result (List Value) Reason
more_values r rest = and_then r (λ v. and_then rest (λ vs. Ok (v ∷ vs)))

abs_number : (r : Result ℤ Reason) → and_then (one_value (as_whole r)) (value_if_known (function_named (codes "ABS"))) ≡ as_whole (and_then r (λ x. wholes (judged (absolute x))))
abs_number (Ok x) = sym (again_judged (absolute x))
abs_number (Err q) = refl

min_number : (r s : Result ℤ Reason) → and_then (more_values (as_whole r) (one_value (as_whole s))) (value_if_known (function_named (codes "MIN"))) ≡ as_whole (with_two (λ x y. Ok (int_min x y)) r s)
min_number (Ok x) (Ok y) = refl
min_number (Ok x) (Err q) = refl
min_number (Err q) s = refl

max_number : (r s : Result ℤ Reason) → and_then (more_values (as_whole r) (one_value (as_whole s))) (value_if_known (function_named (codes "MAX"))) ≡ as_whole (with_two (λ x y. Ok (int_max x y)) r s)
max_number (Ok x) (Ok y) = refl
max_number (Ok x) (Err q) = refl
max_number (Err q) s = refl

limit_number : (r s t : Result ℤ Reason)
    → and_then (more_values (as_whole r) (more_values (as_whole s) (one_value (as_whole t)))) (value_if_known (function_named (codes "LIMIT")))
    ≡ as_whole (and_then r (λ least. with_two (λ x most. Ok (int_min (int_max x least) most)) s t))
limit_number (Ok x) (Ok y) (Ok z) = refl
limit_number (Ok x) (Ok y) (Err q) = refl
limit_number (Ok x) (Err q) t = refl
limit_number (Err q) s t = refl

sel_number : (c : Result Bool Reason) (r s : Result ℤ Reason)
    → and_then (more_values (as_bool c) (more_values (as_whole r) (one_value (as_whole s)))) (value_if_known (function_named (codes "SEL"))) ≡ as_whole (chosen c r s)
sel_number (Ok true) (Ok x) (Ok y) = refl
sel_number (Ok false) (Ok x) (Ok y) = refl
sel_number (Ok b) (Ok x) (Err q) = refl
sel_number (Ok b) (Err q) s = refl
sel_number (Err q) r s = refl

sel_truth : (c r s : Result Bool Reason)
    → and_then (more_values (as_bool c) (more_values (as_bool r) (one_value (as_bool s)))) (value_if_known (function_named (codes "SEL"))) ≡ as_bool (chosen c r s)
sel_truth (Ok true) (Ok x) (Ok y) = refl
sel_truth (Ok false) (Ok x) (Ok y) = refl
sel_truth (Ok b) (Ok x) (Err q) = refl
sel_truth (Ok b) (Err q) s = refl
sel_truth (Err q) r s = refl

-- the truth value of a truth value is itself
again_truth : (r : Result Bool Reason) → and_then (as_bool r) (λ v. Ok (truth v)) ≡ r
again_truth (Ok b) = refl
again_truth (Err q) = refl

-- ---- Variables

module _ (ds : List Declared) (ws : List ℤ) (len : length ws ≡ length ds) (once : ¬ (Twice (map (λ d. d.0) ds))) where
  slot_number : (i : ℕ) (o : Option Declared) → slice_get ds i ≡ o → is_plain_type o ≡ true → values_at ds ws (name_at ds i) ≡ value.Whole (word_at ws i)
  slot_number i None at g = absurd (false≢true g)
  slot_number i (Some d) at g = word_read ds ws len once i d at ∙ plain d.1 g where
    plain : (t : Ty) → is_plain_type (Some (d.0, t)) ≡ true → value_of_word t (word_at ws i) ≡ value.Whole (word_at ws i)
    plain ty.Bool h = absurd (false≢true h)
    plain ty.Ulint h = absurd (false≢true h)
    plain ty.Sint h = refl
    plain ty.Int h = refl
    plain ty.Dint h = refl
    plain ty.Lint h = refl
    plain ty.Usint h = refl
    plain ty.Uint h = refl
    plain ty.Udint h = refl
    plain ty.Time h = refl

  slot_unsigned : (i : ℕ) (o : Option Declared) → slice_get ds i ≡ o → is_unsigned_type o ≡ true → values_at ds ws (name_at ds i) ≡ value.Whole (unsigned_of (word_at ws i))
  slot_unsigned i None at g = absurd (false≢true g)
  slot_unsigned i (Some d) at g = word_read ds ws len once i d at ∙ plain d.1 g where
    plain : (t : Ty) → is_unsigned_type (Some (d.0, t)) ≡ true → value_of_word t (word_at ws i) ≡ value.Whole (unsigned_of (word_at ws i))
    plain ty.Ulint h = refl
    plain ty.Bool h = absurd (false≢true h)
    plain ty.Sint h = absurd (false≢true h)
    plain ty.Int h = absurd (false≢true h)
    plain ty.Dint h = absurd (false≢true h)
    plain ty.Lint h = absurd (false≢true h)
    plain ty.Usint h = absurd (false≢true h)
    plain ty.Uint h = absurd (false≢true h)
    plain ty.Udint h = absurd (false≢true h)
    plain ty.Time h = absurd (false≢true h)

  slot_truth : (i : ℕ) (o : Option Declared) → slice_get ds i ≡ o → is_truth_type o ≡ true → values_at ds ws (name_at ds i) ≡ value.Bool (truth_of_word (word_at ws i))
  slot_truth i None at g = absurd (false≢true g)
  slot_truth i (Some d) at g = word_read ds ws len once i d at ∙ plain d.1 g where
    plain : (t : Ty) → is_truth_type (Some (d.0, t)) ≡ true → value_of_word t (word_at ws i) ≡ value.Bool (truth_of_word (word_at ws i))
    plain ty.Bool h = refl
    plain ty.Ulint h = absurd (false≢true h)
    plain ty.Sint h = absurd (false≢true h)
    plain ty.Int h = absurd (false≢true h)
    plain ty.Dint h = absurd (false≢true h)
    plain ty.Lint h = absurd (false≢true h)
    plain ty.Usint h = absurd (false≢true h)
    plain ty.Uint h = absurd (false≢true h)
    plain ty.Udint h = absurd (false≢true h)
    plain ty.Time h = absurd (false≢true h)

  abbrev vars : Values
  vars = values_at ds ws

  mutual
    pub number_comes : (e : Number) → kinds_number ds e ≡ true → value_of (expr_of_number ds e) vars ≡ as_whole (number_at e ws)
    number_comes (Constant z) g = refl
    number_comes (Slot i) g = ap (λ (v : Value). Ok v) (slot_number i (slice_get ds i) refl g)
    number_comes (UnsignedSlot i) g = ap (λ (v : Value). Ok v) (slot_unsigned i (slice_get ds i) refl g)
    number_comes (Binary o e f) g =
        let a = both_true (gives_number o && kinds_number ds e) (kinds_number ds f) g in
        let b = both_true (gives_number o) (kinds_number ds e) a.0 in
        (λ i. and_then (number_comes e b.1 i) (λ v. and_then (number_comes f a.1 i) (λ w. binary_value o v w))) ∙ binary_numbers o (number_at e ws) (number_at f ws) b.0
    number_comes (Negated e) g = ap (λ r. and_then r (unary_value unary.Negate)) (number_comes e g) ∙ negated_number (number_at e ws)
    number_comes (Magnitude e) g = ap (λ r. and_then (one_value r) (value_if_known (function_named (codes "ABS")))) (number_comes e g) ∙ abs_number (number_at e ws)
    number_comes (Lesser e f) g =
        let b = both_true (kinds_number ds e) (kinds_number ds f) g in
        (λ i. and_then (more_values (number_comes e b.0 i) (one_value (number_comes f b.1 i))) (value_if_known (function_named (codes "MIN")))) ∙ min_number (number_at e ws) (number_at f ws)
    number_comes (Larger e f) g =
        let b = both_true (kinds_number ds e) (kinds_number ds f) g in
        (λ i. and_then (more_values (number_comes e b.0 i) (one_value (number_comes f b.1 i))) (value_if_known (function_named (codes "MAX")))) ∙ max_number (number_at e ws) (number_at f ws)
    number_comes (Limited e f h) g =
        let a = both_true (kinds_number ds e && kinds_number ds f) (kinds_number ds h) g in
        let b = both_true (kinds_number ds e) (kinds_number ds f) a.0 in
        (λ i. and_then (more_values (number_comes e b.0 i) (more_values (number_comes f b.1 i) (one_value (number_comes h a.1 i)))) (value_if_known (function_named (codes "LIMIT"))))
        ∙ limit_number (number_at e ws) (number_at f ws) (number_at h ws)
    number_comes (Chosen c e f) g =
        let a = both_true (kinds_truth ds c && kinds_number ds e) (kinds_number ds f) g in
        let b = both_true (kinds_truth ds c) (kinds_number ds e) a.0 in
        (λ i. and_then (more_values (truth_comes c b.0 i) (more_values (number_comes e b.1 i) (one_value (number_comes f a.1 i)))) (value_if_known (function_named (codes "SEL"))))
        ∙ sel_number (truth_at c ws) (number_at e ws) (number_at f ws)

    pub truth_comes : (c : Truth) → kinds_truth ds c ≡ true → value_of (expr_of_truth ds c) vars ≡ as_bool (truth_at c ws)
    truth_comes (Known b) g = refl
    truth_comes (TruthSlot i) g = ap (λ (v : Value). Ok v) (slot_truth i (slice_get ds i) refl g)
    truth_comes (Compared o e f) g =
        let a = both_true (is_comparison o && kinds_number ds e) (kinds_number ds f) g in
        let b = both_true (is_comparison o) (kinds_number ds e) a.0 in
        (λ i. and_then (number_comes e b.1 i) (λ v. and_then (number_comes f a.1 i) (λ w. binary_value o v w))) ∙ binary_compared o (number_at e ws) (number_at f ws) b.0
    truth_comes (Joined o c d) g =
        let a = both_true (is_joint o && kinds_truth ds c) (kinds_truth ds d) g in
        let b = both_true (is_joint o) (kinds_truth ds c) a.0 in
        (λ i. and_then (truth_comes c b.1 i) (λ v. and_then (truth_comes d a.1 i) (λ w. binary_value o v w))) ∙ binary_truths o (truth_at c ws) (truth_at d ws) b.0
    truth_comes (Not c) g = ap (λ r. and_then r (unary_value unary.Not)) (truth_comes c g) ∙ not_truth (truth_at c ws)
    truth_comes (TruthChosen c d e) g =
        let a = both_true (kinds_truth ds c && kinds_truth ds d) (kinds_truth ds e) g in
        let b = both_true (kinds_truth ds c) (kinds_truth ds d) a.0 in
        (λ i. and_then (more_values (truth_comes c b.0 i) (more_values (truth_comes d b.1 i) (one_value (truth_comes e a.1 i)))) (value_if_known (function_named (codes "SEL"))))
        ∙ sel_truth (truth_at c ws) (truth_at d ws) (truth_at e ws)

  -- a condition is true where its text is
  pub condition_comes : (c : Truth) → kinds_truth ds c ≡ true → truth_of (expr_of_truth ds c) vars ≡ truth_at c ws
  condition_comes c g = ap (λ r. and_then r (λ v. Ok (truth v))) (truth_comes c g) ∙ again_truth (truth_at c ws)
