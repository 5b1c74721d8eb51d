use Rattle.fb_types.proofs.Common.{◌≡◌, ◌++◌, ◌∷◌, [], List, map, Result, Ok, length-append, arith, sym, ap, ◌∙◌, err_from_is_err_and, expr_of, exprs, Values, value_of, values_of as values_of_all, and_then, unary_value, binary_value, value_if_known, function_named}
use Rattle.fb_types.specs.declared.text.Expr.{Expr}
use Rattle.fb_types.specs.declared.value.Reason.{Reason}
use Rattle.fb_types.specs.declared.value.Value.{Value}
use Rattle.fb_st.specs.Required.{both}
use Rattle.fb_st.specs.Frames.{values_of}
use Rattle.fb_st.proofs.lemmas.Arguments.{argument_done, with_one, one_stops, with_two, two_stop, with_three, three_stop, third_stops}
use Rattle.fb_st.proofs.lemmas.Says.{truth_comes, variable_comes, group_comes, unary_comes, binary_comes, call_comes}
use Rattle.fb_st.proofs.evaluation.+eval.Goals as goal

pub call-loop-argument-preserved : goal.call-loop-argument-preserved
call-loop-argument-preserved t c =
    let v = c.in_ok-eval-in_default.field-0 in
    let done = c.loop-argument.invariant.0 in
    let count = c.loop-argument.invariant.1 in (
      done ++ v ∷ [],
      simp length-append (omega arith),
      argument_done (values_of c.args.frame.now) c.args.arguments.now c.loop-argument.argument-index c.argument-item.result v done _
          (omega arith) c.argument-item.is (sym c.eval-in-loop-argument.ensures ∙ c.in_ok-eval-in_default.was) c.loop-argument.invariant.2,
    )

-- ---- What has one part or none

pub eval-returns-in-Truth : goal.eval-returns-in-Truth
eval-returns-in-Truth t c =
    truth_comes c.args.expr.now (values_of c.args.frame.now) _ c.in-Truth.is

pub eval-returns-in-Variable : goal.eval-returns-in-Variable
eval-returns-in-Variable t c =
    ap (λ (v : Value). Ok v) c.value.ensures ∙ variable_comes c.args.expr.now (values_of c.args.frame.now) _ c.in-Variable.is

pub eval-returns-in-Group : goal.eval-returns-in-Group
eval-returns-in-Group t c =
    c.eval.ensures ∙ ap (λ e. value_of (expr_of e) (values_of c.args.frame.now)) c.get.ensures ∙ group_comes c.args.expr.now (values_of c.args.frame.now) _ c.in-Group.is

pub eval-returns-in-Call : goal.eval-returns-in-Call
eval-returns-in-Call t c =
    c.call.ensures ∙ ap (λ (es : List Expr). and_then (values_of_all (exprs (map expr_of es)) (values_of c.args.frame.now)) (value_if_known (function_named c.in-Call.name))) c.as_slice.ensures ∙ call_comes c.args.expr.now (values_of c.args.frame.now) _ _ c.in-Call.is

-- ---- Operators

pub eval-returns-in-Unary : goal.eval-returns-in-Unary
eval-returns-in-Unary t c =
    let vars : Values = values_of c.args.frame.now in
    let known : c.eval-in-Unary.result ≡ value_of (expr_of c.in-Unary.operand) vars = c.eval-in-Unary.ensures ∙ ap (λ e. value_of (expr_of e) vars) c.get-in-Unary.ensures in
    c.unary.ensures ∙ ap (λ (r : Result Value Reason). and_then r (unary_value c.in-Unary.operator)) known ∙ unary_comes c.args.expr.now vars _ _ c.in-Unary.is

pub eval-returns-in-Binary : goal.eval-returns-in-Binary
eval-returns-in-Binary t c =
    let vars : Values = values_of c.args.frame.now in
    let first : c.eval-in-Binary.result ≡ value_of (expr_of c.in-Binary.left) vars = c.eval-in-Binary.ensures ∙ ap (λ e. value_of (expr_of e) vars) c.get-in-Binary.ensures in
    let second : c.eval-in-Binary-2.result ≡ value_of (expr_of c.in-Binary.right) vars = c.eval-in-Binary-2.ensures ∙ ap (λ e. value_of (expr_of e) vars) c.get-in-Binary-2.ensures in
    c.binary.ensures ∙ (λ i. and_then (first i) (λ v. and_then (second i) (λ w. binary_value c.in-Binary.operator v w))) ∙ binary_comes c.args.expr.now vars _ _ _ c.in-Binary.is

-- ---- Calls

pub call-returns-in_ok-eval-in-len1 : goal.call-returns-in_ok-eval-in-len1
call-returns-in_ok-eval-in-len1 t c =
    let v : Value = c.in_ok-eval-in-len1.field-0 in
    c.call_with_one.ensures ∙ ap (λ f. value_if_known f (v ∷ [])) c.named-function.ensures
    ∙ with_one (values_of c.args.frame.now) c.args.arguments.now (value_if_known (function_named c.args.name.now)) c.one-item.result v c.in-len1.len_at_least c.in-len1.len_below c.one-item.is (sym c.eval.ensures ∙ c.in_ok-eval-in-len1.was)

pub call-returns-in_err-eval-in-len1 : goal.call-returns-in_err-eval-in-len1
call-returns-in_err-eval-in-len1 t c =
    let x = err_from_is_err_and c.from_residual.result c.from_residual.ensures.1 in
    rw (x.1, x.2)
    (one_stops (values_of c.args.frame.now) c.args.arguments.now (value_if_known (function_named c.args.name.now)) c.one-item.result _ c.in-len1.len_at_least c.in-len1.len_below c.one-item.is (sym c.eval.ensures ∙ c.in_err-eval-in-len1.was))

pub call-returns-in_ok-first-in-len2 : goal.call-returns-in_ok-first-in-len2
call-returns-in_ok-first-in-len2 t c =
    let p : Value × Value = (c.in_ok-first-in-len2.first, c.in_ok-first-in-len2.second) in
    c.call_with_two.ensures ∙ ap (λ f. value_if_known f (p.0 ∷ p.1 ∷ [])) c.named-function.ensures
    ∙ with_two (values_of c.args.frame.now) c.args.arguments.now (value_if_known (function_named c.args.name.now)) c.one-item-then-arguments-lt3.result c.two-item.result p c.in-len2.len_at_least c.in-len2.len_below c.one-item-then-arguments-lt3.is c.two-item.is (sym c.both_values.ensures ∙ c.in_ok-first-in-len2.was)

pub call-returns-in_err-first-in-len2 : goal.call-returns-in_err-first-in-len2
call-returns-in_err-first-in-len2 t c =
    let x = err_from_is_err_and c.from_residual-in_err-first-in-len2.result c.from_residual-in_err-first-in-len2.ensures.1 in
    rw (x.1, x.2) (two_stop (values_of c.args.frame.now) c.args.arguments.now (value_if_known (function_named c.args.name.now)) c.one-item-then-arguments-lt3.result c.two-item.result _ c.in-len2.len_at_least c.in-len2.len_below c.one-item-then-arguments-lt3.is c.two-item.is (sym c.both_values.ensures ∙ c.in_err-first-in-len2.was))

pub call-returns-in_ok-eval-in-len3 : goal.call-returns-in_ok-eval-in-len3
call-returns-in_ok-eval-in-len3 t c =
    let p : Value × Value = (c.in_ok-first-in-len3.first, c.in_ok-first-in-len3.second) in
    let v : Value = c.in_ok-eval-in-len3.field-0 in
    c.call_with_three.ensures ∙ ap (λ f. value_if_known f (p.0 ∷ p.1 ∷ v ∷ [])) c.named-function.ensures
    ∙ with_three (values_of c.args.frame.now) c.args.arguments.now (value_if_known (function_named c.args.name.now)) c.one-item-then-arguments-lt4.result c.two-item-then-arguments-lt4.result c.three-item.result p v c.in-len3.len_at_least c.in-len3.len_below c.one-item-then-arguments-lt4.is c.two-item-then-arguments-lt4.is c.three-item.is (sym c.both_values-in-len3.ensures ∙ c.in_ok-first-in-len3.was) (sym c.eval-in-len3.ensures ∙ c.in_ok-eval-in-len3.was)

pub call-returns-in_err-first-in-len3 : goal.call-returns-in_err-first-in-len3
call-returns-in_err-first-in-len3 t c =
    let x = err_from_is_err_and c.from_residual-in_err-first-in-len3.result c.from_residual-in_err-first-in-len3.ensures.1 in
    rw (x.1, x.2) (three_stop (values_of c.args.frame.now) c.args.arguments.now (value_if_known (function_named c.args.name.now)) c.one-item-then-arguments-lt4.result c.two-item-then-arguments-lt4.result c.three-item.result _ c.in-len3.len_at_least c.in-len3.len_below c.one-item-then-arguments-lt4.is c.two-item-then-arguments-lt4.is c.three-item.is (sym c.both_values-in-len3.ensures ∙ c.in_err-first-in-len3.was))

pub call-returns-in_err-eval-in-len3 : goal.call-returns-in_err-eval-in-len3
call-returns-in_err-eval-in-len3 t c =
    let x = err_from_is_err_and c.from_residual-in_err-eval-in-len3.result c.from_residual-in_err-eval-in-len3.ensures.1 in
    rw (x.1, x.2)
    (third_stops (values_of c.args.frame.now) c.args.arguments.now (value_if_known (function_named c.args.name.now)) c.one-item-then-arguments-lt4.result c.two-item-then-arguments-lt4.result c.three-item.result _ _ c.in-len3.len_at_least c.in-len3.len_below c.one-item-then-arguments-lt4.is c.two-item-then-arguments-lt4.is c.three-item.is (sym c.both_values-in-len3.ensures ∙ c.in_ok-first-in-len3.was) (sym c.eval-in-len3.ensures ∙ c.in_err-eval-in-len3.was))

-- ---- Two operands

pub both_values-returns-in_err-first : goal.both_values-returns-in_err-first
both_values-returns-in_err-first t c =
    let x = err_from_is_err_and c.from_residual.result c.from_residual.ensures.1 in
    rw (x.1, x.2) (ap (λ r. both r (value_of (expr_of c.args.right.now) (values_of c.args.frame.now))) (sym c.in_err-first.was ∙ c.eval.ensures))

pub both_values-returns-in_err-eval : goal.both_values-returns-in_err-eval
both_values-returns-in_err-eval t c =
    let x = err_from_is_err_and c.from_residual-in_err-eval.result c.from_residual-in_err-eval.ensures.1 in
    rw (x.1, x.2) (λ i. both ((sym c.in_ok-first.was ∙ c.eval.ensures) i) ((sym c.in_err-eval.was ∙ c.eval-2.ensures) i))

pub both_values-returns : goal.both_values-returns
both_values-returns t c = λ i. both ((sym c.in_ok-first.was ∙ c.eval.ensures) i) ((sym c.in_ok-eval.was ∙ c.eval-2.ensures) i)
