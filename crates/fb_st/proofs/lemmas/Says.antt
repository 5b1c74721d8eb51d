-- What the expressions that were read say, each by its parts, and their results (IEC 61131-3, 7.3.2).
use Rattle.fb_types.proofs.Common.{◌≡◌, ℤ, Bool, List, map, Ok, refl, sym, ap, Name, Binary, expr_of, exprs, Values, value_of, values_of, value_if_known, function_named, and_then, unary_value, binary_value}
use Rattle.fb_types.specs.declared.text.UnaryOperator.{UnaryOperator}
use Rattle.fb_types.specs.declared.text.BinaryOperator.{BinaryOperator}
use Rattle.fb_types.specs.Syntax.{Whole, Truth, Variable, Unary, Call}
use Rattle.fb_types.specs.declared.text.Expr as read
use Rattle.fb_types.specs.declared.text.Expr.{fold-roll-Expr}
use Rattle.fb_types.specs.declared.text.Expr.TheVariants as variant
use Rattle.fb_types.specs.declared.value.Value.TheVariants as value

module _ (d : read.Expr) where
  pub whole_is : (z : ℤ) → d ≡ variant.Whole z → expr_of d ≡ Whole z
  whole_is z is = rw is (rw (← variant.rolls-Whole z) (rw fold-roll-Expr refl))

  pub truth_is : (b : Bool) → d ≡ variant.Truth b → expr_of d ≡ Truth b
  truth_is b is = rw is (rw (← variant.rolls-Truth b) (rw fold-roll-Expr refl))

  pub variable_is : (n : Name) → d ≡ variant.Variable n → expr_of d ≡ Variable n
  variable_is n is = rw is (rw (← variant.rolls-Variable n) (rw fold-roll-Expr refl))

  pub group_is : (e : read.Expr) → d ≡ variant.Group e → expr_of d ≡ expr_of e
  group_is e is = rw is (rw (← variant.rolls-Group e) (rw fold-roll-Expr refl))

  pub call_is : (f : Name) (es : List read.Expr) → d ≡ variant.Call f es → expr_of d ≡ Call f (exprs (map expr_of es))
  call_is f es is = rw is (rw (← variant.rolls-Call f es) (rw fold-roll-Expr refl))

  pub unary_is : (o : UnaryOperator) (e : read.Expr) → d ≡ variant.Unary o e → expr_of d ≡ Unary o (expr_of e)
  unary_is o e is = rw is (rw (← variant.rolls-Unary o e) (rw fold-roll-Expr refl))

  pub binary_is : (o : BinaryOperator) (e f : read.Expr) → d ≡ variant.Binary o e f → expr_of d ≡ Binary o (expr_of e) (expr_of f)
  binary_is o e f is = rw is (rw (← variant.rolls-Binary o e f) (rw fold-roll-Expr refl))

  module _ (vars : Values) where
    pub whole_comes : (z : ℤ) → d ≡ variant.Whole z → Ok (value.Whole z) ≡ value_of (expr_of d) vars
    whole_comes z is = ap (λ e. value_of e vars) (sym (whole_is z is))

    pub truth_comes : (b : Bool) → d ≡ variant.Truth b → Ok (value.Bool b) ≡ value_of (expr_of d) vars
    truth_comes b is = ap (λ e. value_of e vars) (sym (truth_is b is))

    pub variable_comes : (n : Name) → d ≡ variant.Variable n → Ok (vars n) ≡ value_of (expr_of d) vars
    variable_comes n is = ap (λ e. value_of e vars) (sym (variable_is n is))

    pub group_comes : (e : read.Expr) → d ≡ variant.Group e → value_of (expr_of e) vars ≡ value_of (expr_of d) vars
    group_comes e is = ap (λ e. value_of e vars) (sym (group_is e is))

    pub call_comes : (f : Name) (es : List read.Expr) → d ≡ variant.Call f es
        → and_then (values_of (exprs (map expr_of es)) vars) (value_if_known (function_named f)) ≡ value_of (expr_of d) vars
    call_comes f es is = ap (λ e. value_of e vars) (sym (call_is f es is))

    pub unary_comes : (o : UnaryOperator) (e : read.Expr) → d ≡ variant.Unary o e → and_then (value_of (expr_of e) vars) (unary_value o) ≡ value_of (expr_of d) vars
    unary_comes o e is = ap (λ e. value_of e vars) (sym (unary_is o e is))

    pub binary_comes : (o : BinaryOperator) (e f : read.Expr) → d ≡ variant.Binary o e f
        → and_then (value_of (expr_of e) vars) (λ v. and_then (value_of (expr_of f) vars) (λ w. binary_value o v w)) ≡ value_of (expr_of d) vars
    binary_comes o e f is = ap (λ e. value_of e vars) (sym (binary_is o e f is))
