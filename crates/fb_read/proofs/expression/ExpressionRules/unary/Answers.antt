use Rattle.fb_read.specs.declared.token.Mark.TheVariants as mark
use Rattle.fb_read.specs.Expressions.{unary}
use Rattle.fb_read.proofs.lemmas.rules.Reading.{begun, passed}
use Rattle.fb_read.proofs.expression.ExpressionRules.unary.Goals as goal

pub returns-then-eat : goal.returns-then-eat
unfolding unary
returns-then-eat g c =
    begun mark.Minus _ _ _ _ _ _ _ c.eat.ensures.found c.if-eat.true c.eat.ensures.after c.prefixed.ensures

pub returns-then-eat-2 : goal.returns-then-eat-2
unfolding unary
returns-then-eat-2 g c =
    passed mark.Minus _ _ _ _ _ _ _ c.eat.ensures.found c.if-eat.false c.eat.ensures.after
    (begun mark.Not _ _ _ _ _ _ _ c.eat-else-eat.ensures.found c.if-eat-2.true c.eat-else-eat.ensures.after c.prefixed-then-eat-2.ensures)

pub returns-else-eat-2 : goal.returns-else-eat-2
unfolding unary
returns-else-eat-2 g c =
    passed mark.Minus _ _ _ _ _ _ _ c.eat.ensures.found c.if-eat.false c.eat.ensures.after
    (passed mark.Not _ _ _ _ _ _ _ c.eat-else-eat.ensures.found c.if-eat-2.false c.eat-else-eat.ensures.after
    c.primary.ensures)
