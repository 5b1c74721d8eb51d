-- Constants that their variable can't hold, and divisions by the constant 0 (IEC 61131-3, 7.3.2 and 7.3.3).
use Rattle.std.specs.Prelude.{ℕ, ℤ, pos, neg_ℤ, List, ◌++◌, Bool, true, false, not, ◌&&◌, ◌||◌, if◌then◌else◌, Option, Some, None, option_and_then}
use Rattle.std.specs.List.{list_any}
use Rattle.fb_types.specs.Names.{Name, same_name}
use Rattle.fb_types.specs.Syntax.{Expr, Whole, Truth, Variable, Unary, Binary, Call, Exprs, no_expr, then_exprs, Stmt, Empty, Exit, Return, Assign, If, Case, For, While, Repeat, Choices, no_choice, then_choices, body_of, expr_of, step_of}
use Rattle.fb_types.specs.Values.{fits, same_whole, within_signed}
use Rattle.fb_types.specs.declared.library.Algorithm.{Algorithm}
use Rattle.fb_types.specs.declared.library.BasicType.{BasicType}
use Rattle.fb_types.specs.declared.library.Transition.{Transition}
use Rattle.fb_types.specs.declared.library.Variable as declared
use Rattle.fb_types.specs.declared.text.BinaryOperator.{BinaryOperator}
use Rattle.fb_types.specs.declared.text.BinaryOperator.TheVariants.{Divide, Modulo}
use Rattle.fb_types.specs.declared.text.UnaryOperator.{UnaryOperator}
use Rattle.fb_types.specs.declared.text.UnaryOperator.TheVariants.{Negate, Not}
use Rattle.fb_types.specs.declared.text.Expr as read
use Rattle.fb_types.specs.declared.value.Value.TheVariants as value
use Rattle.fb_check.specs.types.Statements.{Standing, each_in_body}
use Rattle.fb_lint.specs.Findings.{when, each_from}
use Rattle.fb_lint.specs.declared.warning.Warning.{Warning}
use Rattle.fb_lint.specs.declared.warning.Warning.TheVariants.{UnheldConstant, ZeroDivisor, ZeroDivisorInGuard}

-- the number with the other sign, unless that is out of the range of whole numbers
abbrev pub negated : ℤ → Option ℤ
negated z = if within_signed 127 (neg_ℤ z) then Some (neg_ℤ z) else None

abbrev pub signed : UnaryOperator → Option ℤ → Option ℤ
signed Negate o = option_and_then negated o
signed Not o = None

-- a number, also after signs
abbrev pub constant : Expr → Option ℤ
constant (Whole z) = Some z
constant (Truth b) = None
constant (Variable n) = None
constant (Unary o e) = signed o (constant e)
constant (Binary o e f) = None
constant (Call f args) = None

-- ---- L17

abbrev pub is_narrow : Name → ℤ → declared.Variable → Bool
is_narrow n z v = same_name n v.name && not (fits v.ty (value.Whole z))

-- the data output or the internal variable with the name can't hold the number
abbrev pub is_too_large : BasicType → Name → ℤ → Bool
is_too_large t n z = list_any (is_narrow n z) t.ports.outputs || list_any (is_narrow n z) t.internals

abbrev pub constant_too_large : BasicType → Name → Option ℤ → Bool
constant_too_large t n None = false
constant_too_large t n (Some z) = is_too_large t n z

abbrev pub assigns_too_large : BasicType → Stmt → Bool
assigns_too_large t (Assign n e) = constant_too_large t n (constant e)
assigns_too_large t (For n a b c body) = constant_too_large t n (constant a)
assigns_too_large t s = false

-- ---- L18

abbrev pub is_zero_number : Option ℤ → Bool
is_zero_number None = false
is_zero_number (Some z) = same_whole z (pos 0)

abbrev pub is_zero : Expr → Bool
is_zero e = is_zero_number (constant e)

abbrev pub is_division : BinaryOperator → Bool
is_division Divide = true
is_division Modulo = true
is_division o = false

-- the operation divides by the constant 0
abbrev pub is_zero_division : BinaryOperator → (right : Expr) → Bool
is_zero_division o f = is_division o && is_zero f

abbrev mutual
  pub divides_by_zero : Expr → Bool
  divides_by_zero (Whole z) = false
  divides_by_zero (Truth b) = false
  divides_by_zero (Variable n) = false
  divides_by_zero (Unary o e) = divides_by_zero e
  divides_by_zero (Binary o e f) = is_zero_division o f || divides_by_zero e || divides_by_zero f
  divides_by_zero (Call f args) = some_divides args

  pub some_divides : Exprs → Bool
  some_divides no_expr = false
  some_divides (then_exprs e rest) = divides_by_zero e || some_divides rest

abbrev pub condition_divides : Choices → Bool
condition_divides no_choice = false
condition_divides (then_choices c body rest) = divides_by_zero c || condition_divides rest

abbrev pub step_divides : Option read.Expr → Bool
step_divides o = divides_by_zero (step_of o)

-- a statement by itself, without the statements inside it
abbrev pub divides_in : Stmt → Bool
divides_in Empty = false
divides_in Exit = false
divides_in Return = false
divides_in (Assign n e) = divides_by_zero e
divides_in (If cs others) = condition_divides cs
divides_in (Case e bs others) = divides_by_zero e
divides_in (For n a b c body) = divides_by_zero a || divides_by_zero b || divides_by_zero c
divides_in (While c body) = divides_by_zero c
divides_in (Repeat body c) = divides_by_zero c

abbrev pub guard_divides : Transition → Bool
guard_divides x = elim x.condition.guard [ None ↦ false | Some g ↦ divides_by_zero (expr_of g) ]

abbrev pub dividing_guard : (block : ℕ) → ℕ → Transition → List Warning
dividing_guard b k x = when (guard_divides x) (ZeroDivisorInGuard b k)

abbrev pub dividing_guards : (block : ℕ) → List Transition → List Warning
dividing_guards b xs = each_from (dividing_guard b) 0 xs

-- ---- Both, of the algorithms

abbrev pub constants_of : BasicType → (block algorithm : ℕ) → ℕ → Standing → List Warning
constants_of t b a k s = when (assigns_too_large t s.1) (UnheldConstant b a k) ++ when (divides_in s.1) (ZeroDivisor b a k)

abbrev pub constants_among : BasicType → (block algorithm : ℕ) → List Standing → List Warning
constants_among t b a ss = each_from (constants_of t b a) 0 ss

-- the statements are counted as they begin in the text
abbrev pub constants_in : BasicType → (block algorithm : ℕ) → Algorithm → List Warning
constants_in t b a x = constants_among t b a (each_in_body false (body_of x.body))

abbrev pub constants_of_algorithms : BasicType → (block : ℕ) → List Algorithm → List Warning
constants_of_algorithms t b as' = each_from (constants_in t b) 0 as'

abbrev pub of_constants : (block : ℕ) → BasicType → List Warning
of_constants b t = dividing_guards b t.transitions ++ constants_of_algorithms t b t.algorithms
