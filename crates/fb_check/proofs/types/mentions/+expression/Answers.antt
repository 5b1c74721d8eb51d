use Rattle.fb_check.proofs.lemmas.Common.{◌++◌, List, refl, ◌∙◌, ap, expr_of, mentions, Expr, arguments_of, meant_all}
use Rattle.fb_types.specs.Unknown.{mentions_all}
use Rattle.fb_check.proofs.lemmas.types.GrowingLists.{all_added, and_added, list_added, one_added}
use Rattle.fb_check.proofs.lemmas.types.Mentioned.{binary_names, call_names, group_names, unary_names, variable_names}
use Rattle.fb_check.proofs.types.mentions.+expression.Goals as goal

pub push_arguments-loop-argument-preserved : goal.push_arguments-loop-argument-preserved
push_arguments-loop-argument-preserved t c =
    one_added (λ (es : List Expr). mentions_all (arguments_of es)) (λ (e : Expr). mentions (expr_of e)) c.as_slice-argument-items.result.now c.loop-argument.argument-index
    c.argument-item.result (meant_all c.loop-argument.all.items) (meant_all c.push_expression.new.all.items) _ (λ _ _. refl) c.loop-argument-test.true
    c.argument-item.is c.in_ok-push_expression.ensures c.loop-argument.invariant

pub push_arguments-returns : goal.push_arguments-returns
push_arguments-returns t c =
    list_added (λ (es : List Expr). mentions_all (arguments_of es)) c.as_slice-argument-items.result.now c.loop-argument.argument-index (meant_all c.loop-argument.all.items) _ refl
    c.loop-argument-test.false c.loop-argument.invariant
    ∙ ap (λ (es : List Expr). meant_all c.args.all.now.items ++ mentions_all (arguments_of es)) c.as_slice-argument-items.ensures

pub push_expression-returns-in-Variable : goal.push_expression-returns-in-Variable
push_expression-returns-in-Variable t c =
    all_added c.push_mention.result (meant_all c.args.all.now.items) (meant_all c.push_mention.new.all.items) _ _
    (variable_names c.args.expr.now c.name.result.now c.in-Variable.variable c.in-Variable.is c.name.ensures) c.push_mention.ensures

pub push_expression-returns-in-Group : goal.push_expression-returns-in-Group
push_expression-returns-in-Group t c =
    all_added c.push_expression.result (meant_all c.args.all.now.items) (meant_all c.push_expression.new.all.items) _ _
    (group_names c.args.expr.now c.get.result.now c.in-Group.inner c.in-Group.is c.get.ensures) c.push_expression.ensures

pub push_expression-returns-in-Unary : goal.push_expression-returns-in-Unary
push_expression-returns-in-Unary t c =
    all_added c.push_expression-in-Unary.result (meant_all c.args.all.now.items) (meant_all c.push_expression-in-Unary.new.all.items) _ _
    (unary_names c.args.expr.now c.in-Unary.field-0 c.get-in-Unary.result.now c.in-Unary.operand c.in-Unary.is c.get-in-Unary.ensures)
    c.push_expression-in-Unary.ensures

pub push_expression-returns-in-Binary : goal.push_expression-returns-in-Binary
push_expression-returns-in-Binary t c =
    and_added c.and.result c.push_expression-in-Binary.result c.push_expression-in-Binary-2.result (meant_all c.args.all.now.items) (meant_all c.push_expression-in-Binary.new.all.items)
    (meant_all c.push_expression-in-Binary-2.new.all.items) _ _ _
    (binary_names c.args.expr.now c.in-Binary.field-0 c.get-in-Binary.result.now c.in-Binary.left c.get-in-Binary-2.result.now c.in-Binary.right
    c.in-Binary.is c.get-in-Binary.ensures c.get-in-Binary-2.ensures)
    c.and.ensures c.push_expression-in-Binary.ensures c.push_expression-in-Binary-2.ensures

pub push_expression-returns-in-Call : goal.push_expression-returns-in-Call
push_expression-returns-in-Call t c =
    and_added c.and-in-Call.result c.push_mention-in-Call.result c.push_arguments.result (meant_all c.args.all.now.items) (meant_all c.push_mention-in-Call.new.all.items) (meant_all c.push_arguments.new.all.items) _ _ _
    (call_names c.args.expr.now c.in-Call.name c.in-Call.arguments c.in-Call.is)
    c.and-in-Call.ensures c.push_mention-in-Call.ensures c.push_arguments.ensures
