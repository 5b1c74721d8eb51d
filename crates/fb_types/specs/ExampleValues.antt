-- Worked examples: values of expressions (IEC 61131-3, 7.3.2; the range of 128 bits and the order of faults are this project's profile).
use Rattle.std.specs.Prelude.{◌≡◌, [], ◌∷◌, ℤ, pos, negsuc, ◌^◌, ◌-◌, true, false, Result, Ok, Err, codes, List, map, Bool}
use Rattle.fb_types.specs.Syntax.{Expr, Whole, Truth, Unary, Binary, Call, Exprs, no_expr, then_exprs}
use Rattle.fb_types.specs.Values.{Values, value_of}
use Rattle.fb_types.specs.declared.text.UnaryOperator.TheVariants.{Negate, Not}
use Rattle.fb_types.specs.declared.text.BinaryOperator.{BinaryOperator}
use Rattle.fb_types.specs.declared.text.BinaryOperator.TheVariants.{Or, Xor, And, Equal, NotEqual, Less, Greater, LessOrEqual, GreaterOrEqual, Add, Subtract, Multiply, Divide, Modulo}
use Rattle.fb_types.specs.declared.value.Value.{Value}
use Rattle.fb_types.specs.declared.value.Value.TheVariants as value
use Rattle.fb_types.specs.declared.value.Reason.{Reason}
use Rattle.fb_types.specs.declared.value.Reason.TheVariants as reason

-- An expression has the value, or the reason, whatever the variables hold.
abbrev pub HasResult : Expr → Result Value Reason → Type 0
HasResult e r = (vars : Values) → value_of e vars ≡ r

abbrev pub number : ℤ → Result Value Reason
number z = Ok (value.Whole z)

-- 1 / 0
abbrev pub one_by_zero : Expr
one_by_zero = Binary Divide (Whole (pos 1)) (Whole (pos 0))

-- the greatest whole number, and the least
abbrev pub greatest : Expr
greatest = Whole (pos (2 ^ 127 - 1))

abbrev pub least : Expr
least = Whole (negsuc (2 ^ 127 - 1))

abbrev pub three : Expr → Expr → Expr → Exprs
three d e f = then_exprs d (then_exprs e (then_exprs f no_expr))

-- Expressions have these truth values, whatever the variables hold.
abbrev pub HaveTruths : List (Expr × Bool) → Type 0
HaveTruths cs = (vars : Values) → map (λ c. value_of c.0 vars) cs ≡ map (λ c. Ok (value.Bool c.1)) cs

-- Expressions have these numbers, whatever the variables hold.
abbrev pub HaveNumbers : List (Expr × ℤ) → Type 0
HaveNumbers cs = (vars : Values) → map (λ c. value_of c.0 vars) cs ≡ map (λ c. number c.1) cs

abbrev pub of_truths : BinaryOperator → (a b : Bool) → Expr
of_truths o a b = Binary o (Truth a) (Truth b)

abbrev pub of_numbers : BinaryOperator → (x y : ℤ) → Expr
of_numbers o x y = Binary o (Whole x) (Whole y)

abbrev pub junction_table : List (Expr × Bool)
junction_table =
    (of_truths And true true, true) ∷ (of_truths And true false, false) ∷ (of_truths And false true, false)
    ∷ (of_truths Or false true, true) ∷ (of_truths Or true false, true) ∷ (of_truths Or false false, false)
    ∷ (of_truths Xor true false, true) ∷ (of_truths Xor false true, true) ∷ (of_truths Xor true true, false) ∷ (of_truths Xor false false, false)
    ∷ (Unary Not (Truth true), false) ∷ (Unary Not (Truth false), true) ∷ []

abbrev pub comparison_table : List (Expr × Bool)
comparison_table =
    (of_numbers Less (negsuc 0) (pos 0), true) ∷ (of_numbers Less (pos 2) (pos 2), false)
    ∷ (of_numbers Greater (pos 0) (negsuc 0), true) ∷ (of_numbers Greater (pos 2) (pos 2), false)
    ∷ (of_numbers LessOrEqual (pos 2) (pos 2), true) ∷ (of_numbers LessOrEqual (pos 3) (pos 2), false)
    ∷ (of_numbers GreaterOrEqual (pos 2) (pos 2), true) ∷ (of_numbers GreaterOrEqual (pos 2) (pos 3), false)
    ∷ (of_numbers Equal (pos 2) (pos 2), true) ∷ (of_numbers Equal (pos 2) (pos 3), false)
    ∷ (of_numbers NotEqual (pos 2) (pos 2), false) ∷ (of_numbers NotEqual (pos 2) (pos 3), true)
    ∷ (of_truths Equal true true, true) ∷ (of_truths Equal false false, true) ∷ (of_truths Equal true false, false)
    ∷ (of_truths NotEqual true false, true) ∷ (of_truths NotEqual false false, false) ∷ []

abbrev pub one_argument : Expr → Exprs
one_argument e = then_exprs e no_expr

abbrev pub two_arguments : Expr → Expr → Exprs
two_arguments e f = then_exprs e (one_argument f)

abbrev pub number_table : List (Expr × ℤ)
number_table =
    (of_numbers Add (pos 5) (negsuc 6), negsuc 1) ∷ (of_numbers Subtract (pos 5) (pos 7), negsuc 1)
    ∷ (of_numbers Multiply (pos 3) (negsuc 3), negsuc 11) ∷ (Unary Negate (Whole (pos 3)), negsuc 2)
    ∷ (Call (codes "MIN") (two_arguments (Whole (pos 3)) (Whole (negsuc 3))), negsuc 3)
    ∷ (Call (codes "MAX") (two_arguments (Whole (pos 3)) (Whole (negsuc 3))), pos 3)
    ∷ (Call (codes "ABS") (one_argument (Whole (negsuc 2))), pos 3) ∷ []

-- Operators and functions without a reason.
pub record AreOperators : Type 0 where
  pub junctions : HaveTruths junction_table
  pub comparisons : HaveTruths comparison_table
  pub numbers : HaveNumbers number_table

-- Division cuts toward zero, and MOD has the sign of its first operand, or is 0 if the second one is 0.
pub record AreQuotients : Type 0 where
  pub quotient : HasResult (Binary Divide (Whole (negsuc 6)) (Whole (pos 2))) (number (negsuc 2))
  pub remainder : HasResult (Binary Modulo (Whole (negsuc 6)) (Whole (pos 2))) (number (negsuc 0))
  pub remainder_by_negative : HasResult (Binary Modulo (Whole (pos 7)) (Whole (negsuc 1))) (number (pos 1))
  pub remainder_by_zero : HasResult (Binary Modulo (Whole (pos 5)) (Whole (pos 0))) (number (pos 0))
  pub by_zero : HasResult one_by_zero (Err reason.Divide)

-- A result out of the range of whole numbers is a reason; MOD does not judge its quotient.
pub record AreJudged : Type 0 where
  pub sum : HasResult (Binary Add greatest (Whole (pos 1))) (Err reason.Range)
  pub negation : HasResult (Unary Negate least) (Err reason.Range)
  pub magnitude : HasResult (Call (codes "ABS") (one_argument least)) (Err reason.Range)
  pub quotient : HasResult (Binary Divide least (Whole (negsuc 0))) (Err reason.Range)
  pub remainder : HasResult (Binary Modulo least (Whole (negsuc 0))) (number (pos 0))

-- All operands are evaluated, from left to right, and the first reason counts.
pub record AreAllEvaluated : Type 0 where
  pub conjunction : HasResult (Binary And (Truth false) (Binary Equal one_by_zero (Whole (pos 1)))) (Err reason.Divide)
  pub selection : HasResult (Call (codes "SEL") (three (Truth false) (Whole (pos 1)) one_by_zero)) (Err reason.Divide)
  pub first : HasResult (Binary Add (Binary Add greatest (Whole (pos 1))) one_by_zero) (Err reason.Range)

-- LIMIT cuts first below and then above; SEL takes the first of the two for FALSE.
pub record AreSelected : Type 0 where
  pub limited : HasResult (Call (codes "LIMIT") (three (Whole (pos 2)) (Whole (pos 9)) (Whole (pos 5)))) (number (pos 5))
  pub crossed : HasResult (Call (codes "LIMIT") (three (Whole (pos 5)) (Whole (pos 1)) (Whole (pos 2)))) (number (pos 2))
  pub for_false : HasResult (Call (codes "SEL") (three (Truth false) (Whole (pos 1)) (Whole (pos 2)))) (number (pos 1))
  pub for_true : HasResult (Call (codes "SEL") (three (Truth true) (Whole (pos 1)) (Whole (pos 2)))) (number (pos 2))
