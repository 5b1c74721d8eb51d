use Rattle.fb_read.proofs.lemmas.Common.{◌≡◌, ◌-◌, nested_expression, level_at, climb}
use Rattle.fb_read.proofs.expression.ExpressionRules.+level.Given as goal

abbrev pub decreases-level : goal.decreases-level
decreases-level g l = l.level

abbrev pub invariant-loop-turn : goal.invariant-loop-turn
invariant-loop-turn g l = level_at l.self.below (nested_expression l.self.below) l.level l.fn.cursor ≡ climb l.self.below (nested_expression l.self.below) l.level (nested_expression l.self.below (l.level - 1)) (l._turn-end - l._turn) l.left l.cursor
