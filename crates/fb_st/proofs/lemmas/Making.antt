-- What is put together from compiled parts says what their texts say, put together.
use Rattle.fb_types.proofs.Common.{◌≡◌, ℕ, ℤ, ◌<◌, ◌&&◌, Bool, true, false, length, List, Option, Some, None, refl, sym, ◌∙◌, ap, arith, slice_get, nat_lt, codes, if◌then◌else◌, nat_tests, Name, same_name, function_named}
use Rattle.fb_types.specs.declared.function.Function.{Function}
use Rattle.fb_types.specs.declared.text.BinaryOperator.{BinaryOperator}
use Rattle.fb_types.specs.Syntax as syntax
use Rattle.fb_types.specs.declared.function.Function.TheVariants as function
use Rattle.fb_types.proofs.lemmas.names.NameLaws.{same_from_same_name}
use Rattle.fb_st.specs.Required.{gives_number}
use Rattle.fb_st.specs.Frames.{Declared}
use Rattle.fb_st.specs.declared.compiled.NumberExpr.{NumberExpr, fold-roll-NumberExpr}
use Rattle.fb_st.specs.declared.compiled.NumberExpr.TheVariants as number
use Rattle.fb_st.specs.declared.compiled.TruthExpr.{TruthExpr, fold-roll-TruthExpr}
use Rattle.fb_st.specs.declared.compiled.TruthExpr.TheVariants as truth
use Rattle.fb_st.specs.Compiled.{Number, Constant, Slot, UnsignedSlot, Binary, Magnitude, Lesser, Larger, Truth, Known, TruthSlot, Compared, Joined, TruthChosen, number_said, truth_said, fits_number, fits_truth, is_comparison, is_joint}
use Rattle.fb_st.specs.Fitting.{name_at, ty_at, ty_or, expr_of_number, expr_of_truth, kinds_number, kinds_truth, right_number, right_truth, is_plain, is_plain_type, is_unsigned, is_unsigned_type, is_truth, is_truth_type}
use Rattle.fb_st.specs.Made.{SaysNumber, SaysTruth, call_of_one, call_of_two, call_of_three}
use Rattle.fb_st.proofs.lemmas.Comes.{both_true}
use Rattle.fb_st.proofs.lemmas.Assigning.{there}

pub both : (a b : Bool) → a ≡ true → b ≡ true → (a && b) ≡ true
both a b p q = ap (λ x. x && b) p ∙ q

all_three : (a b c : Bool) → a ≡ true → b ≡ true → c ≡ true → (a && b && c) ≡ true
all_three a b c p q r = both (a && b) c (both a b p q) r

-- ---- What is right

abbrev number_parts : (ds : List Declared) (x : Number) → right_number ds x ≡ true → (fits_number (length ds) x ≡ true) × (kinds_number ds x ≡ true)
number_parts ds x h = both_true (fits_number (length ds) x) (kinds_number ds x) h

abbrev truth_parts : (ds : List Declared) (c : Truth) → right_truth ds c ≡ true → (fits_truth (length ds) c ≡ true) × (kinds_truth ds c ≡ true)
truth_parts ds c h = both_true (fits_truth (length ds) c) (kinds_truth ds c) h

two_right : (ds : List Declared) (x y : Number) → right_number ds x ≡ true → right_number ds y ≡ true
    → ((fits_number (length ds) x && fits_number (length ds) y) ≡ true) × (kinds_number ds x ≡ true) × (kinds_number ds y ≡ true)
two_right ds x y h k =
    let a = number_parts ds x h in
    let b = number_parts ds y k in
    (both (fits_number (length ds) x) (fits_number (length ds) y) a.0 b.0, a.1, b.1)

binary_right : (ds : List Declared) (o : BinaryOperator) (x y : Number) → gives_number o ≡ true → right_number ds x ≡ true → right_number ds y ≡ true → right_number ds (Binary o x y) ≡ true
binary_right ds o x y g h k =
    let p = two_right ds x y h k in
    both (fits_number (length ds) x && fits_number (length ds) y) (gives_number o && kinds_number ds x && kinds_number ds y) p.0
    (all_three (gives_number o) (kinds_number ds x) (kinds_number ds y) g p.1 p.2)

compared_right : (ds : List Declared) (o : BinaryOperator) (x y : Number) → is_comparison o ≡ true → right_number ds x ≡ true → right_number ds y ≡ true → right_truth ds (Compared o x y) ≡ true
compared_right ds o x y g h k =
    let p = two_right ds x y h k in
    both (fits_number (length ds) x && fits_number (length ds) y) (is_comparison o && kinds_number ds x && kinds_number ds y) p.0
    (all_three (is_comparison o) (kinds_number ds x) (kinds_number ds y) g p.1 p.2)

joined_right : (ds : List Declared) (o : BinaryOperator) (c d : Truth) → is_joint o ≡ true → right_truth ds c ≡ true → right_truth ds d ≡ true → right_truth ds (Joined o c d) ≡ true
joined_right ds o c d g h k =
    let a = truth_parts ds c h in
    let b = truth_parts ds d k in
    both (fits_truth (length ds) c && fits_truth (length ds) d) (is_joint o && kinds_truth ds c && kinds_truth ds d) (both (fits_truth (length ds) c) (fits_truth (length ds) d) a.0 b.0)
    (all_three (is_joint o) (kinds_truth ds c) (kinds_truth ds d) g a.1 b.1)

least_right : (ds : List Declared) (x y : Number) → right_number ds x ≡ true → right_number ds y ≡ true → ((fits_number (length ds) x && fits_number (length ds) y) && (kinds_number ds x && kinds_number ds y)) ≡ true
least_right ds x y h k =
    let p = two_right ds x y h k in
    both (fits_number (length ds) x && fits_number (length ds) y) (kinds_number ds x && kinds_number ds y) p.0 (both (kinds_number ds x) (kinds_number ds y) p.1 p.2)

picked_right : (ds : List Declared) (x y z : Truth) → right_truth ds x ≡ true → right_truth ds y ≡ true → right_truth ds z ≡ true → right_truth ds (TruthChosen x y z) ≡ true
picked_right ds x y z h k l =
    let a = truth_parts ds x h in
    let b = truth_parts ds y k in
    let c = truth_parts ds z l in
    both (fits_truth (length ds) x && fits_truth (length ds) y && fits_truth (length ds) z) (kinds_truth ds x && kinds_truth ds y && kinds_truth ds z)
    (all_three (fits_truth (length ds) x) (fits_truth (length ds) y) (fits_truth (length ds) z) a.0 b.0 c.0)
    (all_three (kinds_truth ds x) (kinds_truth ds y) (kinds_truth ds z) a.1 b.1 c.1)

-- ---- Numbers and variables

pub constant_says : (ds : List Declared) (z : ℤ) (n : NumberExpr) → number_said n ≡ Constant z → SaysNumber ds (syntax.Whole z) n
constant_says ds z n is = record { right = ap (right_number ds) is; says = ap (expr_of_number ds) is }

plain_slot : (ds : List Declared) (i : ℕ) → i < length ds → is_plain (ty_at ds i) ≡ true → is_plain_type (slice_get ds i) ≡ true
plain_slot ds i within h = let at = there ds i within in ap is_plain_type at.1 ∙ ap (λ o. is_plain (ty_or o)) (sym at.1) ∙ h

unsigned_slot : (ds : List Declared) (i : ℕ) → i < length ds → is_unsigned (ty_at ds i) ≡ true → is_unsigned_type (slice_get ds i) ≡ true
unsigned_slot ds i within h = let at = there ds i within in ap is_unsigned_type at.1 ∙ ap (λ o. is_unsigned (ty_or o)) (sym at.1) ∙ h

pub truth_slot_type : (ds : List Declared) (i : ℕ) → i < length ds → is_truth (ty_at ds i) ≡ true → is_truth_type (slice_get ds i) ≡ true
truth_slot_type ds i within h = let at = there ds i within in ap is_truth_type at.1 ∙ ap (λ o. is_truth (ty_or o)) (sym at.1) ∙ h

below : (i n : ℕ) → i < n → nat_lt i n ≡ true
below i n h = grind (arith, nat_tests)

slot_said : (i : ℕ) → number_said (number.Slot i) ≡ Slot i
slot_said i = rw (← number.rolls-Slot i) (rw fold-roll-NumberExpr refl)

unsigned_said : (i : ℕ) → number_said (number.UnsignedSlot i) ≡ UnsignedSlot i
unsigned_said i = rw (← number.rolls-UnsignedSlot i) (rw fold-roll-NumberExpr refl)

flag_said : (i : ℕ) → truth_said (truth.Flag i) ≡ TruthSlot i
flag_said i = rw (← truth.rolls-Flag i) (rw fold-roll-TruthExpr refl)

pub slot_says : (ds : List Declared) (i : ℕ) (n : Name) → i < length ds → is_plain (ty_at ds i) ≡ true → name_at ds i ≡ n → SaysNumber ds (syntax.Variable n) (number.Slot i)
slot_says ds i n within plain named = record {
  right = ap (right_number ds) (slot_said i) ∙ both (nat_lt i (length ds)) (is_plain_type (slice_get ds i)) (below i (length ds) within) (plain_slot ds i within plain);
  says = ap (expr_of_number ds) (slot_said i) ∙ ap (λ x. syntax.Variable x) named;
}

pub unsigned_says : (ds : List Declared) (i : ℕ) (n : Name) → i < length ds → is_unsigned (ty_at ds i) ≡ true → name_at ds i ≡ n → SaysNumber ds (syntax.Variable n) (number.UnsignedSlot i)
unsigned_says ds i n within plain named = record {
  right = ap (right_number ds) (unsigned_said i) ∙ both (nat_lt i (length ds)) (is_unsigned_type (slice_get ds i)) (below i (length ds) within) (unsigned_slot ds i within plain);
  says = ap (expr_of_number ds) (unsigned_said i) ∙ ap (λ x. syntax.Variable x) named;
}

pub flag_says : (ds : List Declared) (i : ℕ) (n : Name) → i < length ds → is_truth (ty_at ds i) ≡ true → name_at ds i ≡ n → SaysTruth ds (syntax.Variable n) (truth.Flag i)
flag_says ds i n within plain named = record {
  right = ap (right_truth ds) (flag_said i) ∙ both (nat_lt i (length ds)) (is_truth_type (slice_get ds i)) (below i (length ds) within) (truth_slot_type ds i within plain);
  says = ap (expr_of_truth ds) (flag_said i) ∙ ap (λ x. syntax.Variable x) named;
}

known_said : (b : Bool) → truth_said (truth.Known b) ≡ Known b
known_said b = rw (← truth.rolls-Known b) (rw fold-roll-TruthExpr refl)

pub known_says : (ds : List Declared) (b : Bool) → SaysTruth ds (syntax.Truth b) (truth.Known b)
known_says ds b = record { right = ap (right_truth ds) (known_said b); says = ap (expr_of_truth ds) (known_said b) }

-- ---- Operators

abbrev two_exprs : BinaryOperator → syntax.Expr → syntax.Expr → syntax.Expr
two_exprs o e f = syntax.Binary o e f

pub binary_says : (ds : List Declared) (o : BinaryOperator) (e f : syntax.Expr) (n l r : NumberExpr) → gives_number o ≡ true → number_said n ≡ Binary o (number_said l) (number_said r)
    → SaysNumber ds e l → SaysNumber ds f r → SaysNumber ds (syntax.Binary o e f) n
binary_says ds o e f n l r g is a b = record {
  right = ap (right_number ds) is ∙ binary_right ds o (number_said l) (number_said r) g a.right b.right;
  says = ap (expr_of_number ds) is ∙ (λ i. two_exprs o (a.says i) (b.says i));
}

pub compared_says : (ds : List Declared) (o : BinaryOperator) (e f : syntax.Expr) (c : TruthExpr) (l r : NumberExpr) → is_comparison o ≡ true → truth_said c ≡ Compared o (number_said l) (number_said r)
    → SaysNumber ds e l → SaysNumber ds f r → SaysTruth ds (syntax.Binary o e f) c
compared_says ds o e f c l r g is a b = record {
  right = ap (right_truth ds) is ∙ compared_right ds o (number_said l) (number_said r) g a.right b.right;
  says = ap (expr_of_truth ds) is ∙ (λ i. two_exprs o (a.says i) (b.says i));
}

pub joined_says : (ds : List Declared) (o : BinaryOperator) (e f : syntax.Expr) (c l r : TruthExpr) → is_joint o ≡ true → truth_said c ≡ Joined o (truth_said l) (truth_said r)
    → SaysTruth ds e l → SaysTruth ds f r → SaysTruth ds (syntax.Binary o e f) c
joined_says ds o e f c l r g is a b = record {
  right = ap (right_truth ds) is ∙ joined_right ds o (truth_said l) (truth_said r) g a.right b.right;
  says = ap (expr_of_truth ds) is ∙ (λ i. two_exprs o (a.says i) (b.says i));
}

-- ---- Functions by their names

abbrev pick : Bool → Bool → Bool → Bool → Bool → Option Function
pick true b c d e = Some function.Min
pick false true c d e = Some function.Max
pick false false true d e = Some function.Abs
pick false false false true e = Some function.Limit
pick false false false false true = Some function.Sel
pick false false false false false = None

picked_min : (a b c d e : Bool) → pick a b c d e ≡ Some function.Min → a ≡ true
picked_min true b c d e h = refl
picked_min false true c d e h = absurd cc
picked_min false false true d e h = absurd cc
picked_min false false false true e h = absurd cc
picked_min false false false false true h = absurd cc
picked_min false false false false false h = absurd cc

picked_max : (a b c d e : Bool) → pick a b c d e ≡ Some function.Max → b ≡ true
picked_max true b c d e h = absurd cc
picked_max false true c d e h = refl
picked_max false false true d e h = absurd cc
picked_max false false false true e h = absurd cc
picked_max false false false false true h = absurd cc
picked_max false false false false false h = absurd cc

picked_abs : (a b c d e : Bool) → pick a b c d e ≡ Some function.Abs → c ≡ true
picked_abs true b c d e h = absurd cc
picked_abs false true c d e h = absurd cc
picked_abs false false true d e h = refl
picked_abs false false false true e h = absurd cc
picked_abs false false false false true h = absurd cc
picked_abs false false false false false h = absurd cc

picked_sel : (a b c d e : Bool) → pick a b c d e ≡ Some function.Sel → e ≡ true
picked_sel true b c d e h = absurd cc
picked_sel false true c d e h = absurd cc
picked_sel false false true d e h = absurd cc
picked_sel false false false true e h = absurd cc
picked_sel false false false false true h = refl
picked_sel false false false false false h = absurd cc

test_pick : (a b c d e : Bool)
    → (if a then Some function.Min else if b then Some function.Max else if c then Some function.Abs else if d then Some function.Limit else if e then Some function.Sel else None) ≡ pick a b c d e
test_pick true b c d e = refl
test_pick false true c d e = refl
test_pick false false true d e = refl
test_pick false false false true e = refl
test_pick false false false false true = refl
test_pick false false false false false = refl

module _ (n : Name) where
  abbrev is : List ℕ → Bool
  is text = same_name n text

  by_tests : (f : Function) → function_named n ≡ Some f → pick (is (codes "MIN")) (is (codes "MAX")) (is (codes "ABS")) (is (codes "LIMIT")) (is (codes "SEL")) ≡ Some f
  by_tests f h = sym (test_pick (is (codes "MIN")) (is (codes "MAX")) (is (codes "ABS")) (is (codes "LIMIT")) (is (codes "SEL"))) ∙ h

  named_min : function_named n ≡ Some function.Min → codes "MIN" ≡ n
  named_min h = sym (same_from_same_name n (codes "MIN") (picked_min (is (codes "MIN")) (is (codes "MAX")) (is (codes "ABS")) (is (codes "LIMIT")) (is (codes "SEL")) (by_tests function.Min h)))

  named_max : function_named n ≡ Some function.Max → codes "MAX" ≡ n
  named_max h = sym (same_from_same_name n (codes "MAX") (picked_max (is (codes "MIN")) (is (codes "MAX")) (is (codes "ABS")) (is (codes "LIMIT")) (is (codes "SEL")) (by_tests function.Max h)))

  named_abs : function_named n ≡ Some function.Abs → codes "ABS" ≡ n
  named_abs h = sym (same_from_same_name n (codes "ABS") (picked_abs (is (codes "MIN")) (is (codes "MAX")) (is (codes "ABS")) (is (codes "LIMIT")) (is (codes "SEL")) (by_tests function.Abs h)))

  named_sel : function_named n ≡ Some function.Sel → codes "SEL" ≡ n
  named_sel h = sym (same_from_same_name n (codes "SEL") (picked_sel (is (codes "MIN")) (is (codes "MAX")) (is (codes "ABS")) (is (codes "LIMIT")) (is (codes "SEL")) (by_tests function.Sel h)))

-- ---- Functions

magnitude_said : (n : NumberExpr) → number_said (number.Magnitude n) ≡ Magnitude (number_said n)
magnitude_said n = rw (← number.rolls-Magnitude n) (rw fold-roll-NumberExpr refl)

lesser_said : (n m : NumberExpr) → number_said (number.Lesser n m) ≡ Lesser (number_said n) (number_said m)
lesser_said n m = rw (← number.rolls-Lesser n m) (rw fold-roll-NumberExpr refl)

greater_said : (n m : NumberExpr) → number_said (number.Greater n m) ≡ Larger (number_said n) (number_said m)
greater_said n m = rw (← number.rolls-Greater n m) (rw fold-roll-NumberExpr refl)

picked_said : (c d e : TruthExpr) → truth_said (truth.Picked c d e) ≡ TruthChosen (truth_said c) (truth_said d) (truth_said e)
picked_said c d e = rw (← truth.rolls-Picked c d e) (rw fold-roll-TruthExpr refl)

pub magnitude_says : (ds : List Declared) (f : Name) (e : syntax.Expr) (n : NumberExpr) → function_named f ≡ Some function.Abs → SaysNumber ds e n → SaysNumber ds (call_of_one f e) (number.Magnitude n)
magnitude_says ds f e n named a = record {
  right = ap (right_number ds) (magnitude_said n) ∙ a.right;
  says = ap (expr_of_number ds) (magnitude_said n) ∙ (λ i. call_of_one (named_abs f named i) (a.says i));
}

pub lesser_says : (ds : List Declared) (f : Name) (d e : syntax.Expr) (n m : NumberExpr) → function_named f ≡ Some function.Min → SaysNumber ds d n → SaysNumber ds e m → SaysNumber ds (call_of_two f d e) (number.Lesser n m)
lesser_says ds f d e n m named a b = record {
  right = ap (right_number ds) (lesser_said n m) ∙ least_right ds (number_said n) (number_said m) a.right b.right;
  says = ap (expr_of_number ds) (lesser_said n m) ∙ (λ i. call_of_two (named_min f named i) (a.says i) (b.says i));
}

pub greater_says : (ds : List Declared) (f : Name) (d e : syntax.Expr) (n m : NumberExpr) → function_named f ≡ Some function.Max → SaysNumber ds d n → SaysNumber ds e m → SaysNumber ds (call_of_two f d e) (number.Greater n m)
greater_says ds f d e n m named a b = record {
  right = ap (right_number ds) (greater_said n m) ∙ least_right ds (number_said n) (number_said m) a.right b.right;
  says = ap (expr_of_number ds) (greater_said n m) ∙ (λ i. call_of_two (named_max f named i) (a.says i) (b.says i));
}

pub picked_says : (ds : List Declared) (f : Name) (d e g : syntax.Expr) (n m k : TruthExpr) → function_named f ≡ Some function.Sel → SaysTruth ds d n → SaysTruth ds e m → SaysTruth ds g k
    → SaysTruth ds (call_of_three f d e g) (truth.Picked n m k)
picked_says ds f d e g n m k named a b c = record {
  right = ap (right_truth ds) (picked_said n m k) ∙ picked_right ds (truth_said n) (truth_said m) (truth_said k) a.right b.right c.right;
  says = ap (expr_of_truth ds) (picked_said n m k) ∙ (λ i. call_of_three (named_sel f named i) (a.says i) (b.says i) (c.says i));
}
