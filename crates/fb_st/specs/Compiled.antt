-- The form in which algorithms and guards run: a variable is the number of its slot, a slot is a word of 64 bits, and an expression is of one kind (this project's own).
use Rattle.std.specs.Prelude.{ℕ, ℤ, pos, ◌+ℤ◌, ◌^◌, int_lt, int_le, nat_lt, List, Bool, true, false, not, ◌&&◌, ◌||◌, if◌then◌else◌, Result, Ok, slice_index_or}
use Rattle.std.specs.Int.{int_min, int_max}
use Rattle.fb_types.specs.Values.{and_then, judged, absolute, same_truth, same_whole, Values}
use Rattle.fb_types.specs.Values as values
use Rattle.fb_types.specs.declared.text.UnaryOperator.TheVariants as unary
use Rattle.fb_types.specs.declared.text.BinaryOperator.{BinaryOperator}
use Rattle.fb_types.specs.declared.text.BinaryOperator.TheVariants.{Or, Xor, And, Equal, NotEqual, Less, Greater, LessOrEqual, GreaterOrEqual, Add, Subtract, Multiply, Divide, Modulo}
use Rattle.fb_types.specs.declared.value.Reason.{Reason}
use Rattle.fb_types.specs.declared.value.Value.TheVariants as value
use Rattle.fb_st.specs.Required.{wholes}
use Rattle.fb_st.specs.declared.compiled.NumberExpr as made
use Rattle.fb_st.specs.declared.compiled.NumberExpr.TheOpen.{NumberExpr-F, TruthExpr-F}
use Rattle.fb_st.specs.declared.compiled.TruthExpr as made_truth

mutual
  pub data Number : Type 0 where
    Constant : ℤ → Number
    Slot : ℕ → Number
    UnsignedSlot : ℕ → Number
    Binary : BinaryOperator → Number → Number → Number
    Negated : Number → Number
    Magnitude : Number → Number
    Lesser : Number → Number → Number
    Larger : Number → Number → Number
    Limited : Number → Number → Number → Number
    Chosen : Truth → Number → Number → Number

  pub data Truth : Type 0 where
    Known : Bool → Truth
    TruthSlot : ℕ → Truth
    Compared : BinaryOperator → Number → Number → Truth
    Joined : BinaryOperator → Truth → Truth → Truth
    Not : Truth → Truth
    TruthChosen : Truth → Truth → Truth → Truth

-- one node that runs, with what its parts say in their places
abbrev pub number_step : NumberExpr-F Number Truth → Number
number_step (NumberExpr-F.Constant z) = Constant z
number_step (NumberExpr-F.Wide z) = Constant z
number_step (NumberExpr-F.Slot i) = Slot i
number_step (NumberExpr-F.UnsignedSlot i) = UnsignedSlot i
number_step (NumberExpr-F.AddSlots i j) = Binary Add (Slot i) (Slot j)
number_step (NumberExpr-F.AddConstant i z) = Binary Add (Slot i) (Constant z)
number_step (NumberExpr-F.AddNested i e) = Binary Add (Slot i) e
number_step (NumberExpr-F.AddToNested e i) = Binary Add e (Slot i)
number_step (NumberExpr-F.SubtractSlots i j) = Binary Subtract (Slot i) (Slot j)
number_step (NumberExpr-F.SubtractConstant i z) = Binary Subtract (Slot i) (Constant z)
number_step (NumberExpr-F.SubtractNested i e) = Binary Subtract (Slot i) e
number_step (NumberExpr-F.MultiplySlots i j) = Binary Multiply (Slot i) (Slot j)
number_step (NumberExpr-F.MultiplyConstant i z) = Binary Multiply (Slot i) (Constant z)
number_step (NumberExpr-F.MultiplyNested i e) = Binary Multiply (Slot i) e
number_step (NumberExpr-F.DivideSlots i j) = Binary Divide (Slot i) (Slot j)
number_step (NumberExpr-F.DivideConstant i z) = Binary Divide (Slot i) (Constant z)
number_step (NumberExpr-F.DivideNested i e) = Binary Divide (Slot i) e
number_step (NumberExpr-F.ModuloSlots i j) = Binary Modulo (Slot i) (Slot j)
number_step (NumberExpr-F.ModuloConstant i z) = Binary Modulo (Slot i) (Constant z)
number_step (NumberExpr-F.ModuloNested i e) = Binary Modulo (Slot i) e
number_step (NumberExpr-F.Binary o e f) = Binary o e f
number_step (NumberExpr-F.Negated e) = Negated e
number_step (NumberExpr-F.Magnitude e) = Magnitude e
number_step (NumberExpr-F.Lesser e f) = Lesser e f
number_step (NumberExpr-F.Greater e f) = Larger e f
number_step (NumberExpr-F.Limited e f g) = Limited e f g
number_step (NumberExpr-F.Chosen c e f) = Chosen c e f

abbrev pub truth_step : TruthExpr-F Number Truth → Truth
truth_step (TruthExpr-F.Known b) = Known b
truth_step (TruthExpr-F.Flag i) = TruthSlot i
truth_step (TruthExpr-F.EqualSlots i j) = Compared Equal (Slot i) (Slot j)
truth_step (TruthExpr-F.EqualConstant i z) = Compared Equal (Slot i) (Constant z)
truth_step (TruthExpr-F.NotEqualSlots i j) = Compared NotEqual (Slot i) (Slot j)
truth_step (TruthExpr-F.NotEqualConstant i z) = Compared NotEqual (Slot i) (Constant z)
truth_step (TruthExpr-F.LessSlots i j) = Compared Less (Slot i) (Slot j)
truth_step (TruthExpr-F.LessConstant i z) = Compared Less (Slot i) (Constant z)
truth_step (TruthExpr-F.GreaterSlots i j) = Compared Greater (Slot i) (Slot j)
truth_step (TruthExpr-F.GreaterConstant i z) = Compared Greater (Slot i) (Constant z)
truth_step (TruthExpr-F.LessOrEqualSlots i j) = Compared LessOrEqual (Slot i) (Slot j)
truth_step (TruthExpr-F.LessOrEqualConstant i z) = Compared LessOrEqual (Slot i) (Constant z)
truth_step (TruthExpr-F.GreaterOrEqualSlots i j) = Compared GreaterOrEqual (Slot i) (Slot j)
truth_step (TruthExpr-F.GreaterOrEqualConstant i z) = Compared GreaterOrEqual (Slot i) (Constant z)
truth_step (TruthExpr-F.Both c d) = Joined And c d
truth_step (TruthExpr-F.Joined o c d) = Joined o c d
truth_step (TruthExpr-F.Compared o e f) = Compared o e f
truth_step (TruthExpr-F.Not c) = Not c
truth_step (TruthExpr-F.Picked c d e) = TruthChosen c d e

-- what an expression that runs says
abbrev pub number_said : made.NumberExpr → Number
number_said = made.fold-NumberExpr Number Truth number_step truth_step

abbrev pub truth_said : made_truth.TruthExpr → Truth
truth_said = made_truth.fold-TruthExpr Number Truth number_step truth_step

-- ---- Its result

-- the word of a slot
abbrev pub word_at : List ℤ → ℕ → ℤ
word_at ws i = slice_index_or ws i (pos 0)

-- the number that a word is whose bits have no sign
abbrev pub unsigned_of : ℤ → ℤ
unsigned_of z = if int_lt z (pos 0) then z +ℤ pos (2 ^ 64) else z

-- the truth value that a word is
abbrev pub truth_of_word : ℤ → Bool
truth_of_word z = not (same_whole z (pos 0))

-- both numbers are known, or the first reason is
abbrev pub with_two : {A B C : Type 0} → (A → B → Result C Reason) → Result A Reason → Result B Reason → Result C Reason
with_two f r s = and_then r (λ x. and_then s (λ y. f x y))

abbrev pub two_numbers : BinaryOperator → Result ℤ Reason → Result ℤ Reason → Result ℤ Reason
two_numbers o = with_two (λ x y. wholes (values.binary_value o (value.Whole x) (value.Whole y)))

-- whether a comparison of two numbers is true; no other operator is between numbers where a truth value is required
abbrev pub compared_by : BinaryOperator → ℤ → ℤ → Bool
compared_by Equal x y = same_whole x y
compared_by NotEqual x y = not (same_whole x y)
compared_by Less x y = int_lt x y
compared_by Greater x y = int_lt y x
compared_by LessOrEqual x y = int_le x y
compared_by GreaterOrEqual x y = int_le y x
compared_by _ x y = false

-- whether an operator compares numbers
abbrev pub is_comparison : BinaryOperator → Bool
is_comparison Equal = true
is_comparison NotEqual = true
is_comparison Less = true
is_comparison Greater = true
is_comparison LessOrEqual = true
is_comparison GreaterOrEqual = true
is_comparison _ = false

abbrev pub two_compared : BinaryOperator → Result ℤ Reason → Result ℤ Reason → Result Bool Reason
two_compared o = with_two (λ x y. Ok (compared_by o x y))

-- two truth values, joined; no other operator is between truth values
abbrev pub joined_by : BinaryOperator → Bool → Bool → Bool
joined_by Or a b = a || b
joined_by Xor a b = not (same_truth a b)
joined_by And a b = a && b
joined_by Equal a b = same_truth a b
joined_by NotEqual a b = not (same_truth a b)
joined_by _ a b = false

-- whether an operator joins truth values
abbrev pub is_joint : BinaryOperator → Bool
is_joint Or = true
is_joint Xor = true
is_joint And = true
is_joint Equal = true
is_joint NotEqual = true
is_joint _ = false

abbrev pub two_truths : BinaryOperator → Result Bool Reason → Result Bool Reason → Result Bool Reason
two_truths o = with_two (λ a b. Ok (joined_by o a b))

-- the first at FALSE, the second at TRUE; all three are evaluated
abbrev pub chosen : {A : Type 0} → Result Bool Reason → Result A Reason → Result A Reason → Result A Reason
chosen c r s = and_then c (λ b. with_two (λ x y. Ok (if b then y else x)) r s)

abbrev mutual
  pub number_at : Number → List ℤ → Result ℤ Reason
  number_at (Constant z) ws = Ok z
  number_at (Slot i) ws = Ok (word_at ws i)
  number_at (UnsignedSlot i) ws = Ok (unsigned_of (word_at ws i))
  number_at (Binary o e f) ws = two_numbers o (number_at e ws) (number_at f ws)
  number_at (Negated e) ws = and_then (number_at e ws) (λ x. wholes (values.unary_value unary.Negate (value.Whole x)))
  number_at (Magnitude e) ws = and_then (number_at e ws) (λ x. wholes (judged (absolute x)))
  number_at (Lesser e f) ws = with_two (λ x y. Ok (int_min x y)) (number_at e ws) (number_at f ws)
  number_at (Larger e f) ws = with_two (λ x y. Ok (int_max x y)) (number_at e ws) (number_at f ws)
  number_at (Limited e f g) ws = and_then (number_at e ws) (λ least. with_two (λ x most. Ok (int_min (int_max x least) most)) (number_at f ws) (number_at g ws))
  number_at (Chosen c e f) ws = chosen (truth_at c ws) (number_at e ws) (number_at f ws)

  pub truth_at : Truth → List ℤ → Result Bool Reason
  truth_at (Known b) ws = Ok b
  truth_at (TruthSlot i) ws = Ok (truth_of_word (word_at ws i))
  truth_at (Compared o e f) ws = two_compared o (number_at e ws) (number_at f ws)
  truth_at (Joined o c d) ws = two_truths o (truth_at c ws) (truth_at d ws)
  truth_at (Not c) ws = and_then (truth_at c ws) (λ b. Ok (not b))
  truth_at (TruthChosen c d e) ws = chosen (truth_at c ws) (truth_at d ws) (truth_at e ws)

-- ---- Whether it speaks of this many slots alone

abbrev mutual
  pub fits_number : ℕ → Number → Bool
  fits_number n (Constant z) = true
  fits_number n (Slot i) = nat_lt i n
  fits_number n (UnsignedSlot i) = nat_lt i n
  fits_number n (Binary o e f) = fits_number n e && fits_number n f
  fits_number n (Negated e) = fits_number n e
  fits_number n (Magnitude e) = fits_number n e
  fits_number n (Lesser e f) = fits_number n e && fits_number n f
  fits_number n (Larger e f) = fits_number n e && fits_number n f
  fits_number n (Limited e f g) = fits_number n e && fits_number n f && fits_number n g
  fits_number n (Chosen c e f) = fits_truth n c && fits_number n e && fits_number n f

  pub fits_truth : ℕ → Truth → Bool
  fits_truth n (Known b) = true
  fits_truth n (TruthSlot i) = nat_lt i n
  fits_truth n (Compared o e f) = fits_number n e && fits_number n f
  fits_truth n (Joined o c d) = fits_truth n c && fits_truth n d
  fits_truth n (Not c) = fits_truth n c
  fits_truth n (TruthChosen c d e) = fits_truth n c && fits_truth n d && fits_truth n e
