use Rattle.fb_read.proofs.lemmas.Common.{◌≡◌, ◌-◌, nested_expression, arguments, arguments_from}
use Rattle.fb_read.proofs.expression.ExpressionRules.arguments.Given as goal

abbrev pub invariant-loop-turn : goal.invariant-loop-turn
invariant-loop-turn g l = arguments l.self.below (nested_expression l.self.below) l.fn.cursor ≡ arguments_from l.self.below (nested_expression l.self.below) (l._turn-end - l._turn) l.found l.depth l.cursor
