-- Types, values and the values of expressions (IEC 61131-3, 6.4.2 and 7.3.2; whole numbers without limit of size are this project's profile).
use Rattle.std.specs.Prelude.{ℕ, ℤ, pos, ◌+ℤ◌, ◌-ℤ◌, ◌*ℤ◌, neg_ℤ, int_div, int_lt, int_le, ◌^◌, List, [], ◌∷◌, Bool, true, false, not, ◌&&◌, ◌||◌, if◌then◌else◌, Result, Ok, Err, Option, Some, None, codes}
use Rattle.std.specs.Int.{int_min, int_max}
use Rattle.fb_types.specs.Names.{Name, same_name}
use Rattle.fb_types.specs.Syntax.{Expr, Whole, Truth, Variable, Unary, Binary, Call, Exprs, no_expr, then_exprs}
use Rattle.fb_types.specs.declared.text.UnaryOperator.{UnaryOperator}
use Rattle.fb_types.specs.declared.text.UnaryOperator.TheVariants.{Negate, Not}
use Rattle.fb_types.specs.declared.text.BinaryOperator.{BinaryOperator}
use Rattle.fb_types.specs.declared.text.BinaryOperator.TheVariants.{Or, Xor, And, Equal, NotEqual, Less, Greater, LessOrEqual, GreaterOrEqual, Add, Subtract, Multiply, Divide, Modulo}
use Rattle.fb_types.specs.declared.function.Function.{Function}
use Rattle.fb_types.specs.declared.function.Function.TheVariants.{Min, Max, Abs, Limit, Sel}
use Rattle.fb_types.specs.declared.value.Value.{Value}
use Rattle.fb_types.specs.declared.value.Value.TheVariants as value
use Rattle.fb_types.specs.declared.value.Reason.{Reason}
use Rattle.fb_types.specs.declared.value.Reason.TheVariants as reason
use Rattle.fb_types.specs.declared.value.Ty.{Ty}
use Rattle.fb_types.specs.declared.value.Ty.TheVariants.{Sint, Int, Dint, Lint, Usint, Uint, Udint, Ulint, Time, Bool as Boolean}

-- What the variables hold.
abbrev pub Values : Type 0
Values = Name → Value

-- The types of the variables.
abbrev pub Types : Type 0
Types = Name → Ty

-- ---- Ranges of the types

-- from -2^b to 2^b - 1
abbrev pub within_signed : ℕ → ℤ → Bool
within_signed b z = int_le (neg_ℤ (pos (2 ^ b))) z && int_lt z (pos (2 ^ b))

-- from 0 to 2^b - 1
abbrev pub within_unsigned : ℕ → ℤ → Bool
within_unsigned b z = int_le (pos 0) z && int_lt z (pos (2 ^ b))

abbrev pub in_range : Ty → ℤ → Bool
in_range Sint z = within_signed 7 z
in_range Int z = within_signed 15 z
in_range Dint z = within_signed 31 z
in_range Lint z = within_signed 63 z
in_range Usint z = within_unsigned 8 z
in_range Uint z = within_unsigned 16 z
in_range Udint z = within_unsigned 32 z
in_range Ulint z = within_unsigned 64 z
in_range Time z = within_signed 63 z
in_range Boolean z = false

-- whether a value is one of the type
abbrev pub fits : Ty → Value → Bool
fits Boolean (value.Bool b) = true
fits t (value.Bool b) = false
fits t (value.Whole z) = in_range t z

-- the initial value of a variable that has no declared value
abbrev pub zero_of : Ty → Value
zero_of Boolean = value.Bool false
zero_of t = value.Whole (pos 0)

-- ---- Operators

-- A truth value or a whole number if the kinds are right, as they are in an accepted text.
abbrev pub whole : Value → ℤ
whole (value.Bool b) = pos 0
whole (value.Whole z) = z

abbrev pub truth : Value → Bool
truth (value.Bool b) = b
truth (value.Whole z) = false

-- an exact result, judged by the range of whole numbers
abbrev pub judged : ℤ → Result Value Reason
judged z = if within_signed 127 z then Ok (value.Whole z) else Err reason.Range

abbrev pub bool_result : Bool → Result Value Reason
bool_result b = Ok (value.Bool b)

abbrev pub same_truth : Bool → Bool → Bool
same_truth true b = b
same_truth false b = not b

abbrev pub same_whole : ℤ → ℤ → Bool
same_whole x y = int_le x y && int_le y x

-- two values of one kind
abbrev pub same_value : Value → Value → Bool
same_value (value.Bool a) (value.Bool b) = same_truth a b
same_value (value.Whole x) (value.Whole y) = same_whole x y
same_value (value.Bool a) (value.Whole y) = false
same_value (value.Whole x) (value.Bool b) = false

-- `/` cuts toward zero
abbrev pub quotient : ℤ → ℤ → Result Value Reason
quotient x y = if same_whole y (pos 0) then Err reason.Divide else judged (int_div x y)

-- `a MOD b` is `a - (a/b)*b`, and 0 if b is 0
abbrev pub modulus : ℤ → ℤ → Result Value Reason
modulus x y = if same_whole y (pos 0) then judged (pos 0) else judged (x -ℤ (int_div x y *ℤ y))

abbrev pub unary_value : UnaryOperator → Value → Result Value Reason
unary_value Negate v = judged (neg_ℤ (whole v))
unary_value Not v = bool_result (not (truth v))

abbrev pub binary_value : BinaryOperator → Value → Value → Result Value Reason
binary_value Or v w = bool_result (truth v || truth w)
binary_value Xor v w = bool_result (not (same_truth (truth v) (truth w)))
binary_value And v w = bool_result (truth v && truth w)
binary_value Equal v w = bool_result (same_value v w)
binary_value NotEqual v w = bool_result (not (same_value v w))
binary_value Less v w = bool_result (int_lt (whole v) (whole w))
binary_value Greater v w = bool_result (int_lt (whole w) (whole v))
binary_value LessOrEqual v w = bool_result (int_le (whole v) (whole w))
binary_value GreaterOrEqual v w = bool_result (int_le (whole w) (whole v))
binary_value Add v w = judged (whole v +ℤ whole w)
binary_value Subtract v w = judged (whole v -ℤ whole w)
binary_value Multiply v w = judged (whole v *ℤ whole w)
binary_value Divide v w = quotient (whole v) (whole w)
binary_value Modulo v w = modulus (whole v) (whole w)

-- ---- Functions (IEC 61131-3, 6.6.2.5)

abbrev pub function_named : Name → Option Function
function_named f =
    if same_name f (codes "MIN") then Some Min
    else if same_name f (codes "MAX") then Some Max
    else if same_name f (codes "ABS") then Some Abs
    else if same_name f (codes "LIMIT") then Some Limit
    else if same_name f (codes "SEL") then Some Sel
    else None

abbrev pub absolute : ℤ → ℤ
absolute z = if int_lt z (pos 0) then neg_ℤ z else z

abbrev pub number : ℤ → Result Value Reason
number z = Ok (value.Whole z)

-- The arguments are given by position. With another number of arguments, as no accepted text has, the value is 0.
abbrev pub function_value : Function → List Value → Result Value Reason
function_value Min (a ∷ b ∷ []) = number (int_min (whole a) (whole b))
function_value Max (a ∷ b ∷ []) = number (int_max (whole a) (whole b))
function_value Abs (a ∷ []) = judged (absolute (whole a))
function_value Limit (least ∷ a ∷ most ∷ []) = number (int_min (int_max (whole a) (whole least)) (whole most))
function_value Sel (g ∷ a ∷ b ∷ []) = Ok (if truth g then b else a)
function_value _ _ = number (pos 0)

abbrev pub value_if_known : Option Function → List Value → Result Value Reason
value_if_known (Some f) vs = function_value f vs
value_if_known None vs = number (pos 0)

-- ---- Expressions

-- continues with a value, unless there is a reason
abbrev pub and_then : {A B : Type 0} → Result A Reason → (A → Result B Reason) → Result B Reason
and_then (Ok a) f = f a
and_then (Err r) f = Err r

-- All operands and arguments are evaluated, from left to right. The first reason is the result.
abbrev mutual
  pub value_of : Expr → Values → Result Value Reason
  value_of (Whole z) vars = Ok (value.Whole z)
  value_of (Truth b) vars = Ok (value.Bool b)
  value_of (Variable n) vars = Ok (vars n)
  value_of (Unary o e) vars = and_then (value_of e vars) (unary_value o)
  value_of (Binary o e f) vars = and_then (value_of e vars) (λ v. and_then (value_of f vars) (λ w. binary_value o v w))
  value_of (Call f args) vars = and_then (values_of args vars) (value_if_known (function_named f))

  pub values_of : Exprs → Values → Result (List Value) Reason
  values_of no_expr vars = Ok []
  values_of (then_exprs e rest) vars = and_then (value_of e vars) (λ v. and_then (values_of rest vars) (λ vs. Ok (v ∷ vs)))

-- the truth value of a condition or a guard
abbrev pub truth_of : Expr → Values → Result Bool Reason
truth_of e vars = and_then (value_of e vars) (λ v. Ok (truth v))
