use Rattle.std.proofs.Common.{◌≡◌, ◌++◌, true, drop, map}
use Rattle.fb_text.specs.Expressions.{arguments_text, expression_text}
use Rattle.fb_text.proofs.expression.+expression.Given as goal

-- with what the rest adds, all is there
abbrev pub invariant-put_arguments-loop-argument : goal.invariant-put_arguments-loop-argument
invariant-put_arguments-loop-argument l =
    l.text.items ++ arguments_text l.is_first (map expression_text (drop l.argument-index l.arguments))
    ≡ l.fn.text.items ++ arguments_text true (map expression_text l.arguments)
