use Rattle.std.proofs.Common.{◌≡◌, ◌∙◌, ℕ, List, ap, map, sym, take}
use Rattle.fb_types.specs.Blocks.{types_of}
use Rattle.fb_types.specs.declared.text.Expr as read
use Rattle.fb_why.specs.Tokens.{next, past, past_each}
use Rattle.fb_why.proofs.lemmas.Mismatching.{argument_unfit, deeper, itself_marked, left_unfit, of_call, of_group, of_left, of_right, of_unary, operand_marked, operand_unfit, right_unfit}
use Rattle.fb_why.proofs.mismatch.+mismatch.Goals as goal

pub mismatch_of-returns-in-Group : goal.mismatch_of-returns-in-Group
mismatch_of-returns-in-Group t c =
    let r = c.mismatch_of.result in
    deeper (types_of c.args.basic.now) c.args.expr.now c.args.first c.get.result.now c.next.result r.operation.now r.marked.now r.first
    (of_group c.args.expr.now c.get.result.now c.in-Group.inner c.args.first c.next.result c.in-Group.is c.get.ensures c.next.ensures) c.mismatch_of.ensures

pub mismatch_of-returns-in-Some : goal.mismatch_of-returns-in-Some
mismatch_of-returns-in-Some t c =
    let r = c.in-Some.inside in
    deeper (types_of c.args.basic.now) c.args.expr.now c.args.first c.get-operand.result.now c.next-from.result r.operation.now r.marked.now r.first
    (of_unary c.in-Unary.field-0 c.args.expr.now c.get-operand.result.now c.in-Unary.operand c.args.first c.next-from.result c.in-Unary.is c.get-operand.ensures c.next-from.ensures)
    c.in-Some.ensures.found

pub mismatch_of-returns-in-None : goal.mismatch_of-returns-in-None
mismatch_of-returns-in-None t c =
    operand_marked (types_of c.args.basic.now) c.args.expr.now c.args.first c.get-operand.result.now c.next-from.result c.requires
    (operand_unfit (types_of c.args.basic.now) c.in-Unary.field-0 c.args.expr.now c.get-operand.result.now c.in-Unary.operand c.args.first c.next-from.result c.in-Unary.is c.get-operand.ensures c.next-from.ensures
    c.requires c.in-None.ensures.none)

pub mismatch_of-returns-in-Some-mismatch_in : goal.mismatch_of-returns-in-Some-mismatch_in
mismatch_of-returns-in-Some-mismatch_in t c =
    let r = c.in-Some-mismatch_in.inside in
    let b = c.in-Binary in
    deeper (types_of c.args.basic.now) c.args.expr.now c.args.first c.get-left.result.now c.args.first r.operation.now r.marked.now r.first
    (of_left b.operator c.args.expr.now c.get-left.result.now b.left b.right c.args.first b.is c.get-left.ensures) c.in-Some-mismatch_in.ensures.found

pub mismatch_of-returns-in-Some-mismatch_in-2 : goal.mismatch_of-returns-in-Some-mismatch_in-2
mismatch_of-returns-in-Some-mismatch_in-2 t c =
    let r = c.in-Some-mismatch_in-2.inside in
    let b = c.in-Binary in
    deeper (types_of c.args.basic.now) c.args.expr.now c.args.first c.get-right.result.now c.next-second.result r.operation.now r.marked.now r.first
    (of_right b.operator c.args.expr.now c.get-left.result.now b.left c.get-right.result.now b.right c.args.first c.past.result c.next-second.result b.is c.get-left.ensures c.get-right.ensures
    c.past.ensures c.next-second.ensures) c.in-Some-mismatch_in-2.ensures.found

pub mismatch_of-returns-in-Left : goal.mismatch_of-returns-in-Left
mismatch_of-returns-in-Left t c =
    let b = c.in-Binary in
    let w = c.in-Left.ensures in
    operand_marked (types_of c.args.basic.now) c.args.expr.now c.args.first c.get-left.result.now c.args.first c.requires
    (left_unfit (types_of c.args.basic.now) b.operator w.0 c.args.expr.now c.get-left.result.now b.left b.right c.args.first b.is c.get-left.ensures w.1 w.2 c.in_default.ensures.none)

pub mismatch_of-returns-in-Right : goal.mismatch_of-returns-in-Right
mismatch_of-returns-in-Right t c =
    let b = c.in-Binary in
    let w = c.in-Right.ensures in
    operand_marked (types_of c.args.basic.now) c.args.expr.now c.args.first c.get-right.result.now c.next-second.result c.requires
    (right_unfit (types_of c.args.basic.now) b.operator w.0 c.args.expr.now c.get-left.result.now b.left c.get-right.result.now b.right c.args.first c.past.result c.next-second.result b.is c.get-left.ensures
    c.get-right.ensures c.past.ensures c.next-second.ensures w.1 w.2 c.requires c.in_default-mismatch_in.ensures.none)

pub mismatch_of-returns-in-Both : goal.mismatch_of-returns-in-Both
mismatch_of-returns-in-Both t c =
    itself_marked (types_of c.args.basic.now) c.args.expr.now c.args.first c.whole.result c.requires c.whole.ensures.operation c.whole.ensures.marked c.whole.ensures.first

pub mismatch_of_call-returns-in_default : goal.mismatch_of_call-returns-in_default
mismatch_of_call-returns-in_default t c =
    itself_marked (types_of c.args.basic.now) c.args.call.now c.args.first c.whole.result c.requires.none c.whole.ensures.operation c.whole.ensures.marked c.whole.ensures.first

pub mismatch_of_call-returns-then-arguments-argument_count : goal.mismatch_of_call-returns-then-arguments-argument_count
mismatch_of_call-returns-then-arguments-argument_count t c =
    let w = c.whole-then-arguments-argument_count in
    itself_marked (types_of c.args.basic.now) c.args.call.now c.args.first w.result c.requires.none w.ensures.operation w.ensures.marked w.ensures.first

pub mismatch_of_arguments-returns-in-Some : goal.mismatch_of_arguments-returns-in-Some
mismatch_of_arguments-returns-in-Some t c =
    let r = c.in-Some.found in
    let args : List read.Expr = c.args.arguments.now in
    let i : ℕ = c.loop-index.index in
    let e : read.Expr = c.index-arguments-index.result in
    let counted : c.past_each-from.result ≡ past_each (map past (take i args)) (next (next c.args.first)) =
    c.past_each-from.ensures ∙ ap (λ (k : ℕ). past_each (map past (take i args)) k) (c.next-inside.ensures ∙ ap next c.next.ensures) in
    deeper (types_of c.args.basic.now) c.args.call.now c.args.first e c.past_each-from.result r.operation.now r.marked.now r.first
    (of_call c.requires.is.0 c.args.call.now e args i c.args.first c.past_each-from.result c.requires.is.1 c.loop-index-test.true c.index-arguments-index.is counted) c.in-Some.ensures.found

pub mismatch_of_arguments-returns-then-not-fits : goal.mismatch_of_arguments-returns-then-not-fits
mismatch_of_arguments-returns-then-not-fits t c =
    let args : List read.Expr = c.args.arguments.now in
    let i : ℕ = c.loop-index.index in
    let e : read.Expr = c.index-arguments-index.result in
    let counted : c.past_each-from.result ≡ past_each (map past (take i args)) (next (next c.args.first)) =
    c.past_each-from.ensures ∙ ap (λ (k : ℕ). past_each (map past (take i args)) k) (c.next-inside.ensures ∙ ap next c.next.ensures) in
    operand_marked (types_of c.args.basic.now) c.args.call.now c.args.first e c.past_each-from.result c.requires.none
    (argument_unfit (types_of c.args.basic.now) c.args.function c.requires.is.0 c.args.call.now e args i c.args.first c.past_each-from.result c.requires.is.1 c.requires.is.2 c.loop-index-test.true
    c.index-arguments-index.is counted (sym c.fits.ensures ∙ c.if-not-fits.true) c.in_default.ensures.none)

pub mismatch_of_arguments-returns : goal.mismatch_of_arguments-returns
mismatch_of_arguments-returns t c =
    itself_marked (types_of c.args.basic.now) c.args.call.now c.args.first c.whole.result c.requires.none c.whole.ensures.operation c.whole.ensures.marked c.whole.ensures.first
