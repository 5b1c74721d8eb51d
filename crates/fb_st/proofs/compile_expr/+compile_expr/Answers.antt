use Rattle.fb_types.proofs.Common.{◌≡◌, Some, refl, sym, ◌∙◌, ap, subst, rules, to_z-of_z, IfOk, IfOk-weaker, Binary, expr_of, function_named}
use Rattle.fb_types.specs.declared.function.Function.{Function}
use mir.Syntax.{w128}
use mir.Val.{SFits}
use Rattle.fb_types.specs.Syntax.{Expr}
use Rattle.fb_types.specs.declared.function.Function.TheVariants as function
use Rattle.fb_types.specs.declared.text.BinaryOperator.TheVariants as binary
use Rattle.fb_st.specs.Compiled.{Compared, Joined, number_said, truth_said}
use Rattle.fb_st.specs.Made.{SaysNumber, SaysTruth}
use Rattle.fb_st.specs.declared.compiled.TruthExpr.{fold-roll-TruthExpr}
use Rattle.fb_st.specs.declared.compiled.TruthExpr.TheVariants as truth
use Rattle.fb_st.proofs.lemmas.Making.{binary_says, compared_says, constant_says, greater_says, joined_says, known_says, lesser_says, magnitude_says, picked_says}
use Rattle.fb_st.proofs.lemmas.Says.{binary_is, call_is, group_is, truth_is, variable_is, whole_is}
use Rattle.fb_st.proofs.compile_expr.+compile_expr.Goals as goal

pub arithmetic-returns : goal.arithmetic-returns
arithmetic-returns t c =
    let ds = c.args.scope.now.layout.now in
    let e = expr_of c.args.left.now in
    let f = expr_of c.args.right.now in
    IfOk-weaker c.binary.result _ (SaysNumber ds (Binary c.args.operator e f))
    (λ n is. binary_says ds c.args.operator e f n c.in_ok-left.left c.in_ok-right.right (sym c.is_arithmetic.ensures ∙ c.if-not-is_arithmetic.false) is c.in_ok-left.ensures c.in_ok-right.ensures)
    c.binary.ensures

pub compile_number-returns-in-Variable : goal.compile_number-returns-in-Variable
compile_number-returns-in-Variable t c =
    let ds = c.args.scope.now.layout.now in
    let said = ap expr_of c.in-Variable.is ∙ variable_is _ c.in-Variable.variable refl in
    subst (λ (e : Expr). IfOk c.number_variable.result (SaysNumber ds e)) (sym said) c.number_variable.ensures

pub compile_number-returns-in-Group : goal.compile_number-returns-in-Group
compile_number-returns-in-Group t c =
    let ds = c.args.scope.now.layout.now in
    let said = ap expr_of c.in-Group.is ∙ group_is _ c.in-Group.inner refl ∙ ap expr_of (sym c.get.ensures) in
    subst (λ (e : Expr). IfOk c.compile_number.result (SaysNumber ds e)) (sym said) c.compile_number.ensures

pub compile_number-returns-in-Call : goal.compile_number-returns-in-Call
compile_number-returns-in-Call t c =
    let ds = c.args.scope.now.layout.now in
    let said = ap expr_of c.in-Call.is ∙ call_is _ c.in-Call.name c.in-Call.arguments refl in
    let call = c.number_call in
    subst (λ (e : Expr). IfOk call.result (SaysNumber ds e)) (sym said) (rw c.as_slice.ensures at call.ensures)

pub compile_truth-returns-in-Variable : goal.compile_truth-returns-in-Variable
compile_truth-returns-in-Variable t c =
    let ds = c.args.scope.now.layout.now in
    let said = ap expr_of c.in-Variable.is ∙ variable_is _ c.in-Variable.variable refl in
    subst (λ (e : Expr). IfOk c.truth_variable.result (SaysTruth ds e)) (sym said) c.truth_variable.ensures

pub compile_truth-returns-in-Group : goal.compile_truth-returns-in-Group
compile_truth-returns-in-Group t c =
    let ds = c.args.scope.now.layout.now in
    let said = ap expr_of c.in-Group.is ∙ group_is _ c.in-Group.inner refl ∙ ap expr_of (sym c.get.ensures) in
    subst (λ (e : Expr). IfOk c.compile_truth.result (SaysTruth ds e)) (sym said) c.compile_truth.ensures

pub compile_truth-returns-in-Call : goal.compile_truth-returns-in-Call
compile_truth-returns-in-Call t c =
    let ds = c.args.scope.now.layout.now in
    let said = ap expr_of c.in-Call.is ∙ call_is _ c.in-Call.name c.in-Call.arguments refl in
    let call = c.truth_call in
    subst (λ (e : Expr). IfOk call.result (SaysTruth ds e)) (sym said) (rw c.as_slice.ensures at call.ensures)

pub compile_number-returns-in-Whole : goal.compile_number-returns-in-Whole
compile_number-returns-in-Whole t c =
    let ds = c.args.scope.now.layout.now in
    let said = ap expr_of c.in-Whole.is ∙ whole_is _ c.in-Whole.number refl in
    let fit : SFits w128 c.in-Whole.number = search rules in
    IfOk-weaker c.constant.result _ (SaysNumber ds (expr_of c.args.expr.now))
    (λ n is. subst (λ (e : Expr). SaysNumber ds e n) (sym said) (constant_says ds c.in-Whole.number n is)) (rw (to_z-of_z fit) at c.constant.ensures)

pub compile_number-returns-in-Binary : goal.compile_number-returns-in-Binary
compile_number-returns-in-Binary t c =
    let ds = c.args.scope.now.layout.now in
    let said = ap expr_of c.in-Binary.is ∙ binary_is _ c.in-Binary.operator c.in-Binary.left c.in-Binary.right refl in
    subst (λ (e : Expr). IfOk c.arithmetic.result (SaysNumber ds e)) (sym said) (rw (c.get-in-Binary.ensures, c.get-in-Binary-2.ensures) at c.arithmetic.ensures)

pub compile_truth-returns-in-Truth : goal.compile_truth-returns-in-Truth
compile_truth-returns-in-Truth t c =
    let ds = c.args.scope.now.layout.now in
    let said = ap expr_of c.in-Truth.is ∙ truth_is _ c.in-Truth.truth refl in
    subst (λ (e : Expr). SaysTruth ds e (truth.Known c.in-Truth.truth)) (sym said) (known_says ds c.in-Truth.truth)

pub compile_truth-returns-then-is_truth : goal.compile_truth-returns-then-is_truth
compile_truth-returns-then-is_truth t c =
    let ds = c.args.scope.now.layout.now in
    let said = ap expr_of c.in-Binary.is ∙ binary_is _ c.in-Binary.operator c.in-Binary.left c.in-Binary.right refl in
    subst (λ (e : Expr). IfOk c.joint.result (SaysTruth ds e)) (sym said) (rw (c.get-then-is_truth.ensures, c.get-then-is_truth-2.ensures) at c.joint.ensures)

pub compile_truth-returns-else-is_truth : goal.compile_truth-returns-else-is_truth
compile_truth-returns-else-is_truth t c =
    let ds = c.args.scope.now.layout.now in
    let said = ap expr_of c.in-Binary.is ∙ binary_is _ c.in-Binary.operator c.in-Binary.left c.in-Binary.right refl in
    subst (λ (e : Expr). IfOk c.comparison.result (SaysTruth ds e)) (sym said) (rw (c.get-else-is_truth.ensures, c.get-else-is_truth-2.ensures) at c.comparison.ensures)

pub comparison-returns-in-Some : goal.comparison-returns-in-Some
comparison-returns-in-Some t c =
    let ds = c.args.scope.now.layout.now in
    let e = expr_of c.args.left.now in
    let f = expr_of c.args.right.now in
    compared_says ds c.args.operator e f c.in-Some.node c.in_ok-left.left c.in_ok-right.right (sym c.is_comparison.ensures ∙ c.if-not-is_comparison.false) c.in-Some.ensures c.in_ok-left.ensures c.in_ok-right.ensures

pub number_of_one-returns-in-Some-Abs : goal.number_of_one-returns-in-Some-Abs
number_of_one-returns-in-Some-Abs t c =
    let ds = c.args.scope.now.layout.now in
    let named : function_named c.args.name.now ≡ Some function.Abs = sym c.named.ensures ∙ c.in-Some-Abs.is ∙ ap (λ (f : Function). Some f) c.in-Some-Abs.field-0-is in
    magnitude_says ds c.args.name.now (expr_of c.args.one.now) c.in_ok-one.one named c.in_ok-one.ensures

pub number_of_two-returns-in-Some-Min : goal.number_of_two-returns-in-Some-Min
number_of_two-returns-in-Some-Min t c =
    let ds = c.args.scope.now.layout.now in
    let named : function_named c.args.name.now ≡ Some function.Min = sym c.named.ensures ∙ c.in-Some-Min.is ∙ ap (λ (f : Function). Some f) c.in-Some-Min.field-0-is in
    lesser_says ds c.args.name.now (expr_of c.args.one.now) (expr_of c.args.two.now) c.in_ok-one.one c.in_ok-two.two named c.in_ok-one.ensures c.in_ok-two.ensures

pub number_of_two-returns-in-Some-Max : goal.number_of_two-returns-in-Some-Max
number_of_two-returns-in-Some-Max t c =
    let ds = c.args.scope.now.layout.now in
    let named : function_named c.args.name.now ≡ Some function.Max = sym c.named.ensures ∙ c.in-Some-Max.is ∙ ap (λ (f : Function). Some f) c.in-Some-Max.field-0-is in
    greater_says ds c.args.name.now (expr_of c.args.one.now) (expr_of c.args.two.now) c.in_ok-one.one c.in_ok-two.two named c.in_ok-one.ensures c.in_ok-two.ensures

pub truth_of_three-returns-in-Some-Sel : goal.truth_of_three-returns-in-Some-Sel
truth_of_three-returns-in-Some-Sel t c =
    let ds = c.args.scope.now.layout.now in
    let named : function_named c.args.name.now ≡ Some function.Sel = sym c.named.ensures ∙ c.in-Some-Sel.is ∙ ap (λ (f : Function). Some f) c.in-Some-Sel.field-0-is in
    picked_says ds c.args.name.now (expr_of c.args.one.now) (expr_of c.args.two.now) (expr_of c.args.three.now) c.in_ok-one.one c.in_ok-two.two c.in_ok-three.three named
    c.in_ok-one.ensures c.in_ok-two.ensures c.in_ok-three.ensures

pub comparison-returns : goal.comparison-returns
comparison-returns t c =
    let ds = c.args.scope.now.layout.now in
    let o = c.args.operator in
    let e = expr_of c.args.left.now in
    let f = expr_of c.args.right.now in
    let l = c.in_ok-left-2.left in
    let r = c.in_ok-right-2.right in
    let is : truth_said (truth.Compared o l r) ≡ Compared o (number_said l) (number_said r) = rw (← truth.rolls-Compared o l r) (rw fold-roll-TruthExpr refl) in
    compared_says ds o e f (truth.Compared o l r) l r (sym c.is_comparison.ensures ∙ c.if-not-is_comparison.false) is
    (subst (SaysNumber ds e) (sym c.in_ok-left-2.ensures) c.in_ok-left.ensures) (subst (SaysNumber ds f) (sym c.in_ok-right-2.ensures) c.in_ok-right.ensures)

pub joint-returns-in-And : goal.joint-returns-in-And
joint-returns-in-And t c =
    let ds = c.args.scope.now.layout.now in
    let e = expr_of c.args.left.now in
    let f = expr_of c.args.right.now in
    let l = c.in_ok-left.left in
    let r = c.in_ok-right.right in
    let both : truth_said (truth.Both l r) ≡ Joined binary.And (truth_said l) (truth_said r) = rw (← truth.rolls-Both l r) (rw fold-roll-TruthExpr refl) in
    joined_says ds c.args.operator e f (truth.Both l r) l r (sym c.is_joint.ensures ∙ c.if-not-is_joint.false)
    (both ∙ ap (λ o. Joined o (truth_said l) (truth_said r)) (sym c.in-And.is)) c.in_ok-left.ensures c.in_ok-right.ensures

pub joint-returns-in_default : goal.joint-returns-in_default
joint-returns-in_default t c =
    let ds = c.args.scope.now.layout.now in
    let o = c.args.operator in
    let e = expr_of c.args.left.now in
    let f = expr_of c.args.right.now in
    let l = c.in_ok-left.left in
    let r = c.in_ok-right.right in
    let is : truth_said (truth.Joined o l r) ≡ Joined o (truth_said l) (truth_said r) = rw (← truth.rolls-Joined o l r) (rw fold-roll-TruthExpr refl) in
    joined_says ds o e f (truth.Joined o l r) l r (sym c.is_joint.ensures ∙ c.if-not-is_joint.false) is c.in_ok-left.ensures c.in_ok-right.ensures
