use Rattle.fb_check.proofs.lemmas.Common.{None, Some, refl, sym, ◌∙◌, ap, value_kind_of_type}
use Rattle.fb_types.specs.declared.value_kind.ValueKind.{ValueKind}
use Rattle.fb_check.proofs.lemmas.types.Arguments.{no_value_kind}
use Rattle.fb_check.proofs.lemmas.types.ExpressionKinds.{binary_from, call_from, group_value_kind, one_from, one_is, three_are, three_from, two_are, two_from, unary_from, variable_value_kind}
use Rattle.fb_check.proofs.types.value_kinds.+value_kind.Goals as goal

pub value_kind_of-returns-in-Variable : goal.value_kind_of-returns-in-Variable
value_kind_of-returns-in-Variable g t c =
    ap (λ (s : ValueKind). Some s) (c.value_kind_of_type.ensures ∙ ap value_kind_of_type c.type_of.ensures)
    ∙ sym (variable_value_kind (g.T.Typing.types c.args.typing.now) c.args.expr.now c.name.result.now c.in-Variable.variable c.in-Variable.is c.name.ensures)

pub value_kind_of-returns-in-Group : goal.value_kind_of-returns-in-Group
value_kind_of-returns-in-Group g t c =
    c.value_kind_of.ensures ∙ sym (group_value_kind (g.T.Typing.types c.args.typing.now) c.args.expr.now c.get.result.now c.in-Group.inner c.in-Group.is c.get.ensures)

pub value_kind_of-returns-in-Unary : goal.value_kind_of-returns-in-Unary
value_kind_of-returns-in-Unary g t c =
    unary_from (g.T.Typing.types c.args.typing.now) c.args.expr.now c.in-Unary.operator c.get-in-Unary.result.now c.in-Unary.operand
    c.value_kind_of-in-Unary.result _ c.in-Unary.is c.get-in-Unary.ensures c.value_kind_of-in-Unary.ensures c.unary_value_kind.ensures

pub value_kind_of-returns-in-Binary : goal.value_kind_of-returns-in-Binary
value_kind_of-returns-in-Binary g t c =
    let b = c.in-Binary in
    binary_from (g.T.Typing.types c.args.typing.now) c.args.expr.now b.operator c.get-in-Binary.result.now b.left c.get-in-Binary-2.result.now b.right
    c.value_kind_of-in-Binary.result c.value_kind_of-in-Binary-2.result _ b.is c.get-in-Binary.ensures c.get-in-Binary-2.ensures
    c.value_kind_of-in-Binary.ensures c.value_kind_of-in-Binary-2.ensures c.binary_value_kind.ensures

pub value_kind_of-returns-in_err-named-in-Call : goal.value_kind_of-returns-in_err-named-in-Call
value_kind_of-returns-in_err-named-in-Call g t c =
    call_from (g.T.Typing.types c.args.typing.now) c.args.expr.now c.in-Call.name c.in-Call.arguments c.in-Call.arguments None _ c.in-Call.is refl
    (sym c.in_err-named-in-Call.was ∙ c.named.ensures) c.from_residual.ensures

pub value_kind_of-returns-in_ok-named-in-Call : goal.value_kind_of-returns-in_ok-named-in-Call
value_kind_of-returns-in_ok-named-in-Call g t c =
    call_from (g.T.Typing.types c.args.typing.now) c.args.expr.now c.in-Call.name c.as_slice.result.now c.in-Call.arguments (Some c.in_ok-named-in-Call.field-0) _
    c.in-Call.is c.as_slice.ensures (sym c.in_ok-named-in-Call.was ∙ c.named.ensures) c.value_kind_of_call.ensures

pub value_kind_of_call-returns-in_default-2 : goal.value_kind_of_call-returns-in_default-2
value_kind_of_call-returns-in_default-2 g t c = no_value_kind (g.T.Typing.types c.args.typing.now) c.args.function c.args.arguments.now c.in_default.len_at_least

pub value_kind_of_call-returns-in-len1 : goal.value_kind_of_call-returns-in-len1
value_kind_of_call-returns-in-len1 g t c =
    one_from (g.T.Typing.types c.args.typing.now) c.args.function c.args.arguments.now c.one-item.result c.value_kind_of.result _
    (one_is c.args.arguments.now c.one-item.result c.in-len1.len_at_least c.in-len1.len_below c.one-item.is) c.value_kind_of.ensures c.value_kind_of_one.ensures

pub value_kind_of_call-returns-in-len2 : goal.value_kind_of_call-returns-in-len2
value_kind_of_call-returns-in-len2 g t c =
    let one = c.one-item-then-arguments-lt3 in
    two_from (g.T.Typing.types c.args.typing.now) c.args.function c.args.arguments.now one.result c.two-item.result c.value_kind_of-in-len2.result c.value_kind_of-in-len2-2.result _
    (two_are c.args.arguments.now one.result c.two-item.result c.in-len2.len_at_least c.in-len2.len_below one.is c.two-item.is)
    c.value_kind_of-in-len2.ensures c.value_kind_of-in-len2-2.ensures c.value_kind_of_two.ensures

pub value_kind_of_call-returns-in-len3 : goal.value_kind_of_call-returns-in-len3
value_kind_of_call-returns-in-len3 g t c =
    let one = c.one-item-then-arguments-lt4 in
    let two = c.two-item-then-arguments-lt4 in
    three_from (g.T.Typing.types c.args.typing.now) c.args.function c.args.arguments.now one.result two.result c.three-item.result
    c.value_kind_of-in-len3.result c.value_kind_of-in-len3-2.result c.value_kind_of-in-len3-3.result _
    (three_are c.args.arguments.now one.result two.result c.three-item.result c.in-len3.len_at_least c.in-len3.len_below one.is two.is c.three-item.is)
    c.value_kind_of-in-len3.ensures c.value_kind_of-in-len3-2.ensures c.value_kind_of-in-len3-3.ensures c.value_kind_of_three.ensures
