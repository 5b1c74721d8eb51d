use Rattle.fb_read.specs.declared.token.Mark.TheVariants as mark
use Rattle.fb_read.specs.Statements.{statement}
use Rattle.fb_read.proofs.lemmas.rules.Reading.{begun, passed}
use Rattle.fb_read.proofs.statement.StatementRules.statement.Goals as goal

pub returns-then-eat : goal.returns-then-eat
unfolding statement
returns-then-eat g c =
    begun mark.If _ _ _ _ _ _ _ c.eat.ensures.found c.if-eat.true c.eat.ensures.after c.if_statement.ensures

pub returns-then-eat-2 : goal.returns-then-eat-2
unfolding statement
returns-then-eat-2 g c =
    passed mark.If _ _ _ _ _ _ _ c.eat.ensures.found c.if-eat.false c.eat.ensures.after
    (begun mark.Case _ _ _ _ _ _ _ c.eat-else-eat.ensures.found c.if-eat-2.true c.eat-else-eat.ensures.after c.case_statement.ensures)

pub returns-then-eat-3 : goal.returns-then-eat-3
unfolding statement
returns-then-eat-3 g c =
    passed mark.If _ _ _ _ _ _ _ c.eat.ensures.found c.if-eat.false c.eat.ensures.after
    (passed mark.Case _ _ _ _ _ _ _ c.eat-else-eat.ensures.found c.if-eat-2.false c.eat-else-eat.ensures.after
    (begun mark.For _ _ _ _ _ _ _ c.eat-else-eat-2.ensures.found c.if-eat-3.true c.eat-else-eat-2.ensures.after c.for_statement.ensures))

pub returns-then-eat-4 : goal.returns-then-eat-4
unfolding statement
returns-then-eat-4 g c =
    passed mark.If _ _ _ _ _ _ _ c.eat.ensures.found c.if-eat.false c.eat.ensures.after
    (passed mark.Case _ _ _ _ _ _ _ c.eat-else-eat.ensures.found c.if-eat-2.false c.eat-else-eat.ensures.after
    (passed mark.For _ _ _ _ _ _ _ c.eat-else-eat-2.ensures.found c.if-eat-3.false c.eat-else-eat-2.ensures.after
    (begun mark.While _ _ _ _ _ _ _ c.eat-else-eat-3.ensures.found c.if-eat-4.true c.eat-else-eat-3.ensures.after c.while_statement.ensures)))

pub returns-then-eat-5 : goal.returns-then-eat-5
unfolding statement
returns-then-eat-5 g c =
    passed mark.If _ _ _ _ _ _ _ c.eat.ensures.found c.if-eat.false c.eat.ensures.after
    (passed mark.Case _ _ _ _ _ _ _ c.eat-else-eat.ensures.found c.if-eat-2.false c.eat-else-eat.ensures.after
    (passed mark.For _ _ _ _ _ _ _ c.eat-else-eat-2.ensures.found c.if-eat-3.false c.eat-else-eat-2.ensures.after
    (passed mark.While _ _ _ _ _ _ _ c.eat-else-eat-3.ensures.found c.if-eat-4.false c.eat-else-eat-3.ensures.after
    (begun mark.Repeat _ _ _ _ _ _ _ c.eat-else-eat-4.ensures.found c.if-eat-5.true c.eat-else-eat-4.ensures.after c.repeat_statement.ensures))))

pub returns-else-eat-5 : goal.returns-else-eat-5
unfolding statement
returns-else-eat-5 g c =
    passed mark.If _ _ _ _ _ _ _ c.eat.ensures.found c.if-eat.false c.eat.ensures.after
    (passed mark.Case _ _ _ _ _ _ _ c.eat-else-eat.ensures.found c.if-eat-2.false c.eat-else-eat.ensures.after
    (passed mark.For _ _ _ _ _ _ _ c.eat-else-eat-2.ensures.found c.if-eat-3.false c.eat-else-eat-2.ensures.after
    (passed mark.While _ _ _ _ _ _ _ c.eat-else-eat-3.ensures.found c.if-eat-4.false c.eat-else-eat-3.ensures.after
    (passed mark.Repeat _ _ _ _ _ _ _ c.eat-else-eat-4.ensures.found c.if-eat-5.false c.eat-else-eat-4.ensures.after
    c.simple.ensures))))
