use Rattle.fb_read.proofs.lemmas.Common.{refl, sym, ◌∙◌, primary}
use Rattle.fb_read.specs.declared.token.Mark.TheVariants as mark
use Rattle.fb_read.proofs.lemmas.rules.Reading.{begun, begun_is, passed, passed_is}
use Rattle.fb_read.proofs.expression.ExpressionRules.primary.Goals as goal

pub returns-then-eat : goal.returns-then-eat
unfolding primary
returns-then-eat g c =
    begun mark.Open _ _ _ _ _ _ _ c.eat.ensures.found c.if-eat.true c.eat.ensures.after c.group.ensures

pub returns-then-eat-2 : goal.returns-then-eat-2
unfolding primary
returns-then-eat-2 g c =
    passed_is mark.Open _ _ _ _ _ _ c.eat.ensures.found c.if-eat.false c.eat.ensures.after
    (begun_is mark.True _ _ _ _ _ _ c.eat-else-eat.ensures.found c.if-eat-2.true c.eat-else-eat.ensures.after refl)

pub returns-then-eat-3 : goal.returns-then-eat-3
unfolding primary
returns-then-eat-3 g c =
    passed_is mark.Open _ _ _ _ _ _ c.eat.ensures.found c.if-eat.false c.eat.ensures.after
    (passed_is mark.True _ _ _ _ _ _ c.eat-else-eat.ensures.found c.if-eat-2.false c.eat-else-eat.ensures.after
    (begun_is mark.False _ _ _ _ _ _ c.eat-else-eat-2.ensures.found c.if-eat-3.true c.eat-else-eat-2.ensures.after refl))

pub returns-then-sees_name : goal.returns-then-sees_name
unfolding primary
returns-then-sees_name g c =
    passed mark.Open _ _ _ _ _ _ _ c.eat.ensures.found c.if-eat.false c.eat.ensures.after
    (passed mark.True _ _ _ _ _ _ _ c.eat-else-eat.ensures.found c.if-eat-2.false c.eat-else-eat.ensures.after
    (passed mark.False _ _ _ _ _ _ _ c.eat-else-eat-2.ensures.found c.if-eat-3.false c.eat-else-eat-2.ensures.after
    (rw (sym c.sees_name.ensures ∙ c.if-sees_name.true) c.named.ensures)))
