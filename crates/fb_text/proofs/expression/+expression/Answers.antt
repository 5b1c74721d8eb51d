use Rattle.fb_types.proofs.Common.{refl, List, map}
use Rattle.fb_types.specs.declared.text.Expr.{Expr}
use Rattle.fb_text.specs.Expressions.{arguments_text, expression_text}
use Rattle.fb_text.proofs.lemmas.Adding.{all_added, argument_added}
use Rattle.fb_text.proofs.expression.+expression.Goals as goal

pub put_arguments-loop-argument-preserved : goal.put_arguments-loop-argument-preserved
put_arguments-loop-argument-preserved t c =
    argument_added c.loop-argument.is_first c.args.arguments.now c.loop-argument.argument-index c.argument-item.result c.loop-argument.text.items _ _ _
    c.loop-argument-test.true c.argument-item.is c.in_ok-put_separator.ensures c.in_ok-put_expression.ensures c.loop-argument.invariant

pub put_arguments-returns : goal.put_arguments-returns
put_arguments-returns t c =
    all_added (λ (es : List Expr). arguments_text c.loop-argument.is_first (map expression_text es)) c.args.arguments.now c.loop-argument.argument-index
    c.loop-argument.text.items _ refl c.loop-argument-test.false c.loop-argument.invariant
