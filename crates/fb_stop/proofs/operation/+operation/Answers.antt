use Rattle.fb_types.proofs.Common.{◌≡◌, ◌∙◌, ℕ, List, Some, map, take, refl, sym, ap, subst, slice_get, slice_get-get_or, Values}
use Rattle.fb_types.specs.declared.text.Expr as read
use Rattle.fb_st.specs.Frames.{values_of}
use Rattle.fb_stop.specs.Numbers.{next}
use Rattle.fb_stop.specs.declared.operation.Operands.{Operands}
use Rattle.fb_stop.specs.Operations.{FaultIn, HasNoValue, HasValue, IsWithout}
use Rattle.fb_stop.specs.Operations as spec
use Rattle.fb_stop.specs.Tokens.{past, past_each}
use Rattle.fb_stop.proofs.lemmas.operations.Operating.{binary_here, of_argument, of_group, of_left, of_operand, of_right, unary_here}
use Rattle.fb_stop.proofs.lemmas.operations.FirstWithoutValue as otherwise
use Rattle.fb_stop.proofs.lemmas.operations.OutermostOperations.{one_is, two_is}
use Rattle.fb_stop.proofs.operation.+operation.Goals as goal

pub operation_in-returns-in-Group-clause-found : goal.operation_in-returns-in-Group-clause-found
operation_in-returns-in-Group-clause-found t c =
    of_group (values_of c.args.frame.now) c.args.reason c.args.expr.now c.in-Group.inner c.get.result.now c.args.first c.next.result c.operation_in.result c.in-Group.is c.get.ensures c.next.ensures c.operation_in.ensures.found

pub operation_in-returns-then-not-has_value-clause-found : goal.operation_in-returns-then-not-has_value-clause-found
operation_in-returns-then-not-has_value-clause-found t c =
    of_operand (values_of c.args.frame.now) c.args.reason c.in-Unary.field-0 c.args.expr.now c.in-Unary.operand c.get-then-not-has_value.result.now c.args.first c.next-then-not-has_value.result
    c.operation_in-then-not-has_value.result c.in-Unary.is c.get-then-not-has_value.ensures c.next-then-not-has_value.ensures c.operation_in-then-not-has_value.ensures.found

pub operation_in-returns-else-not-has_value-clause-found : goal.operation_in-returns-else-not-has_value-clause-found
operation_in-returns-else-not-has_value-clause-found t c =
    unary_here (values_of c.args.frame.now) c.args.reason c.in-Unary.field-0 c.args.expr.now c.in-Unary.operand c.get-in-Unary.result.now c.args.first c.past-end.result c.one.result
    c.in-Unary.is c.get-in-Unary.ensures c.past-end.ensures (c.one.ensures ∙ one_is (values_of c.args.frame.now) c.in-Unary.operand c.get-in-Unary-2.result.now c.value_in.result c.value_in.ensures c.get-in-Unary-2.ensures) (c.fails.ensures.without c.if-not-fails.false) (c.has_value.ensures.has c.if-not-has_value.false)

pub operation_in-returns-then-not-has_value-2-clause-found : goal.operation_in-returns-then-not-has_value-2-clause-found
operation_in-returns-then-not-has_value-2-clause-found t c =
    of_left (values_of c.args.frame.now) c.args.reason c.in-Binary.field-0 c.args.expr.now c.in-Binary.left c.in-Binary.right c.get-then-not-has_value-2.result.now c.args.first
    c.operation_in-then-not-has_value-2.result c.in-Binary.is c.get-then-not-has_value-2.ensures c.operation_in-then-not-has_value-2.ensures.found

pub operation_in-returns-then-not-has_value-3-clause-found : goal.operation_in-returns-then-not-has_value-3-clause-found
operation_in-returns-then-not-has_value-3-clause-found t c =
    let vars : Values = values_of c.args.frame.now in
    let has : HasValue vars c.in-Binary.left = subst (HasValue vars) c.get-in-Binary-2.ensures (c.has_value-in-Binary.ensures.has c.if-not-has_value-2.false) in
    of_right vars c.args.reason c.in-Binary.field-0 c.args.expr.now c.in-Binary.left c.in-Binary.right c.get-then-not-has_value-3.result.now c.in-Binary.left c.args.first c.past-operator.result
    c.next-then-not-has_value-3.result c.operation_in-then-not-has_value-3.result c.in-Binary.is refl c.get-then-not-has_value-3.ensures
    (c.past-operator.ensures ∙ ap (λ (z : read.Expr). past z c.args.first) c.get-in-Binary.ensures) c.next-then-not-has_value-3.ensures has c.operation_in-then-not-has_value-3.ensures.found

pub operation_in-returns-else-not-has_value-3-clause-found : goal.operation_in-returns-else-not-has_value-3-clause-found
operation_in-returns-else-not-has_value-3-clause-found t c =
    let vars : Values = values_of c.args.frame.now in
    let left : HasValue vars c.in-Binary.left = subst (HasValue vars) c.get-in-Binary-2.ensures (c.has_value-in-Binary.ensures.has c.if-not-has_value-2.false) in
    let right : HasValue vars c.in-Binary.right = subst (HasValue vars) c.get-in-Binary-3.ensures (c.has_value-in-Binary-2.ensures.has c.if-not-has_value-3.false) in
    binary_here vars c.args.reason c.in-Binary.field-0 c.args.expr.now c.in-Binary.left c.in-Binary.right c.in-Binary.left c.in-Binary.right c.args.first c.past-operator.result c.past-end.result c.two.result
    c.in-Binary.is refl refl (c.past-operator.ensures ∙ ap (λ (z : read.Expr). past z c.args.first) c.get-in-Binary.ensures) c.past-end.ensures
    (c.two.ensures ∙ two_is vars c.in-Binary.left c.in-Binary.right c.get-in-Binary-4.result.now c.get-in-Binary-5.result.now c.value_in-before.result c.value_in-after.result c.value_in-before.ensures c.value_in-after.ensures c.get-in-Binary-4.ensures c.get-in-Binary-5.ensures)
    (c.fails.ensures.without c.if-not-fails.false) left right

same_some : (x e : read.Expr) (xs : List read.Expr) (i : ℕ) → slice_get xs i ≡ Some x → slice_get xs i ≡ Some e → x ≡ e
same_some x e xs i a b = let both : Some x ≡ Some e = sym a ∙ b in cc

pub operation_in_call-returns-in-Some-clause-found : goal.operation_in_call-returns-in-Some-clause-found
operation_in_call-returns-in-Some-clause-found t c =
    let args : List read.Expr = c.args.arguments.now in
    let index : ℕ = c.in-Some.index in
    let e : read.Expr = c.index-arguments-index.result in
    let h = c.in-Some.ensures.some in
    let here : slice_get args index ≡ Some e = slice_get-get_or args index e c.in-Some.ensures.within ∙ ap Some (sym c.index-arguments-index.is) in
    of_argument (values_of c.args.frame.now) c.args.reason args c.args.first c.args.end index c.past_each-from.result e c.operation_in.result h (same_some h.argument e args index h.at here)
    (c.past_each-from.ensures ∙ ap (λ (k : ℕ). past_each (map past (take index args)) k) (c.next-in-Some.ensures ∙ ap next c.next.ensures))
    c.operation_in.ensures.found

pub operation_in_call-returns-in-None-clause-found : goal.operation_in_call-returns-in-None-clause-found
operation_in_call-returns-in-None-clause-found t c f without ends =
    let args : List read.Expr = c.args.arguments.now in
    subst (λ (k : ℕ). FaultIn (values_of c.args.frame.now) c.args.reason (read.Call f args) c.args.first (record { first = c.args.first; operator = c.args.first; end = k; operands = c.of_call.result })) (sym ends)
    (subst (λ (w : Operands). FaultIn (values_of c.args.frame.now) c.args.reason (read.Call f args) c.args.first (record { first = c.args.first; operator = c.args.first; end = past (read.Call f args) c.args.first; operands = w })) (sym c.of_call.ensures)
    (spec.at_call f args c.args.first without c.in-None.ensures.none))

-- ---- Where no operation is answered

pub operation_in-returns-then-not-fails-clause-none : goal.operation_in-returns-then-not-fails-clause-none
operation_in-returns-then-not-fails-clause-none t c = c.fails.ensures.otherwise c.if-not-fails.true

pub operation_in-returns-in-Whole-clause-none : goal.operation_in-returns-in-Whole-clause-none
operation_in-returns-in-Whole-clause-none t c = otherwise.of_leaf (values_of c.args.frame.now) c.args.reason c.args.expr.now c.in-Whole.is

pub operation_in-returns-in-Group-clause-none : goal.operation_in-returns-in-Group-clause-none
operation_in-returns-in-Group-clause-none t c =
    otherwise.if_none_map c.operation_in.result
    (otherwise.in_group (values_of c.args.frame.now) c.args.reason c.args.expr.now c.in-Group.inner c.get.result.now c.in-Group.is c.get.ensures) c.operation_in.ensures.none

pub operation_in-returns-then-not-has_value-clause-none : goal.operation_in-returns-then-not-has_value-clause-none
operation_in-returns-then-not-has_value-clause-none t c =
    let none : HasNoValue (values_of c.args.frame.now) c.get-in-Unary.result.now = c.has_value.ensures.none c.if-not-has_value.true in
    otherwise.if_none_map c.operation_in-then-not-has_value.result
    (otherwise.in_operand (values_of c.args.frame.now) c.args.reason c.in-Unary.field-0 c.args.expr.now c.in-Unary.operand c.get-then-not-has_value.result.now c.in-Unary.is c.get-then-not-has_value.ensures
    (subst (HasNoValue (values_of c.args.frame.now)) (c.get-in-Unary.ensures ∙ sym c.get-then-not-has_value.ensures) none))
    c.operation_in-then-not-has_value.ensures.none

pub operation_in-returns-then-not-has_value-2-clause-none : goal.operation_in-returns-then-not-has_value-2-clause-none
operation_in-returns-then-not-has_value-2-clause-none t c =
    let vars : Values = values_of c.args.frame.now in
    let none : HasNoValue vars c.get-in-Binary-2.result.now = c.has_value-in-Binary.ensures.none c.if-not-has_value-2.true in
    otherwise.if_none_map c.operation_in-then-not-has_value-2.result
    (otherwise.in_left vars c.args.reason c.in-Binary.field-0 c.args.expr.now c.in-Binary.left c.in-Binary.right c.get-then-not-has_value-2.result.now c.in-Binary.is c.get-then-not-has_value-2.ensures
    (subst (HasNoValue vars) (c.get-in-Binary-2.ensures ∙ sym c.get-then-not-has_value-2.ensures) none))
    c.operation_in-then-not-has_value-2.ensures.none

pub operation_in-returns-then-not-has_value-3-clause-none : goal.operation_in-returns-then-not-has_value-3-clause-none
operation_in-returns-then-not-has_value-3-clause-none t c =
    let vars : Values = values_of c.args.frame.now in
    let has : HasValue vars c.in-Binary.left = subst (HasValue vars) c.get-in-Binary-2.ensures (c.has_value-in-Binary.ensures.has c.if-not-has_value-2.false) in
    let none : HasNoValue vars c.get-in-Binary-3.result.now = c.has_value-in-Binary-2.ensures.none c.if-not-has_value-3.true in
    otherwise.if_none_map c.operation_in-then-not-has_value-3.result
    (otherwise.in_right vars c.args.reason c.in-Binary.field-0 c.args.expr.now c.in-Binary.left c.in-Binary.right c.in-Binary.left c.get-then-not-has_value-3.result.now c.in-Binary.is refl
    c.get-then-not-has_value-3.ensures has (subst (HasNoValue vars) (c.get-in-Binary-3.ensures ∙ sym c.get-then-not-has_value-3.ensures) none))
    c.operation_in-then-not-has_value-3.ensures.none

pub operation_in_call-returns-in-Some-clause-none : goal.operation_in_call-returns-in-Some-clause-none
operation_in_call-returns-in-Some-clause-none t c =
    let args : List read.Expr = c.args.arguments.now in
    let index : ℕ = c.in-Some.index in
    let e : read.Expr = c.index-arguments-index.result in
    let h = c.in-Some.ensures.some in
    let here : slice_get args index ≡ Some e = slice_get-get_or args index e c.in-Some.ensures.within ∙ ap Some (sym c.index-arguments-index.is) in
    otherwise.if_none_map c.operation_in.result (otherwise.in_argument (values_of c.args.frame.now) c.args.reason args index e h (same_some h.argument e args index h.at here)) c.operation_in.ensures.none

pub operation_in-returns-in-Call-clause-none : goal.operation_in-returns-in-Call-clause-none
operation_in-returns-in-Call-clause-none t c =
    let vars : Values = values_of c.args.frame.now in
    let is : c.args.expr.now ≡ read.Call c.in-Call.field-0 c.as_slice.result.now = c.in-Call.is ∙ ap (read.Call c.in-Call.field-0) (sym c.as_slice.ensures) in
    otherwise.if_none_map c.operation_in_call.result (λ never without. never c.in-Call.field-0 (subst (IsWithout vars c.args.reason) is without)) c.operation_in_call.ensures.none
