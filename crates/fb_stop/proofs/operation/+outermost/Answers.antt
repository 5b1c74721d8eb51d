use Rattle.fb_types.proofs.Common.{◌∙◌, List, refl, sym, ap}
use Rattle.fb_types.specs.declared.text.Expr as read
use Rattle.fb_st.specs.Frames.{values_of}
use Rattle.fb_stop.specs.Operations as spec
use Rattle.fb_stop.specs.Tokens.{past}
use Rattle.fb_stop.proofs.lemmas.operations.OutermostOperations.{found_so, of_group, of_leaf, one_is, two_is}
use Rattle.fb_stop.proofs.operation.+outermost.Goals as goal

pub returns-in-Whole : goal.returns-in-Whole
returns-in-Whole t c =
    of_leaf (values_of c.args.frame.now) c.args.expr.now c.args.first c.past-end.result c.one-in-Whole.result c.in-Whole.is c.past-end.ensures c.one-in-Whole.ensures

pub returns-in-Group : goal.returns-in-Group
returns-in-Group t c =
    of_group (values_of c.args.frame.now) c.args.expr.now c.in-Group.inner c.get.result.now c.args.first c.next.result c.outermost.result c.in-Group.is c.get.ensures c.next.ensures c.outermost.ensures

pub returns-in-Unary : goal.returns-in-Unary
returns-in-Unary t c =
    let vars = values_of c.args.frame.now in
    let e : read.Expr = c.in-Unary.operand in
    found_so vars c.args.expr.now (read.Unary c.in-Unary.field-0 e) c.args.first c.args.first c.args.first c.past-end.result c.one.result (spec.of_one vars e) c.in-Unary.is refl c.past-end.ensures
    (c.one.ensures ∙ one_is vars e c.get-in-Unary.result.now c.value_in.result c.value_in.ensures c.get-in-Unary.ensures)
    (spec.unary c.in-Unary.field-0 e c.args.first)

pub returns-in-Binary : goal.returns-in-Binary
returns-in-Binary t c =
    let vars = values_of c.args.frame.now in
    let e : read.Expr = c.in-Binary.left in
    let f : read.Expr = c.in-Binary.right in
    found_so vars c.args.expr.now (read.Binary c.in-Binary.field-0 e f) c.args.first c.past.result (past e c.args.first) c.past-end.result c.two.result (spec.of_two vars e f) c.in-Binary.is
    (c.past.ensures ∙ ap (λ (z : read.Expr). past z c.args.first) c.get-in-Binary.ensures) c.past-end.ensures
    (c.two.ensures ∙ two_is vars e f c.get-in-Binary-2.result.now c.get-in-Binary-3.result.now c.value_in-in-Binary.result c.value_in-in-Binary-2.result c.value_in-in-Binary.ensures c.value_in-in-Binary-2.ensures
    c.get-in-Binary-2.ensures c.get-in-Binary-3.ensures)
    (spec.binary c.in-Binary.field-0 e f c.args.first)

pub returns-in-Call : goal.returns-in-Call
returns-in-Call t c =
    let vars = values_of c.args.frame.now in
    let args : List read.Expr = c.as_slice.result.now in
    found_so vars c.args.expr.now (read.Call c.in-Call.field-0 args) c.args.first c.args.first c.args.first c.past-end.result c.of_call.result (spec.of_call vars args)
    (c.in-Call.is ∙ ap (read.Call c.in-Call.field-0) (sym c.as_slice.ensures)) refl c.past-end.ensures c.of_call.ensures
    (spec.call c.in-Call.field-0 args c.args.first)
