use Rattle.fb_read.proofs.lemmas.Common.{refl, sym, subst, ◌∙◌, err_from_is_err_and, Name, Reads, simple}
use Rattle.fb_types.specs.declared.text.Stmt.TheVariants as s
use Rattle.fb_read.specs.declared.token.Mark.TheVariants as mark
use Rattle.fb_read.specs.Parser.{ended}
use Rattle.fb_read.proofs.lemmas.rules.Pairs.{simple_is}
use Rattle.fb_read.proofs.lemmas.rules.Reading.{begun, begun_is, goes_on, passed, read_as, stops, stops_as}
use Rattle.fb_read.proofs.statement.simple.Goals as goal

pub returns-then-eat : goal.returns-then-eat
unfolding simple
returns-then-eat c = begun_is mark.Semicolon _ _ _ _ _ _ c.eat.ensures.found c.if-eat.true c.eat.ensures.after refl

pub returns-then-eat-2 : goal.returns-then-eat-2
unfolding simple
returns-then-eat-2 c =
    passed mark.Semicolon _ _ _ _ _ _ _ c.eat.ensures.found c.if-eat.false c.eat.ensures.after
    (begun mark.Exit _ _ _ _ _ _ _ c.eat-else-eat.ensures.found c.if-eat-2.true c.eat-else-eat.ensures.after c.ended.ensures)

pub returns-then-eat-3 : goal.returns-then-eat-3
unfolding simple
returns-then-eat-3 c =
    passed mark.Semicolon _ _ _ _ _ _ _ c.eat.ensures.found c.if-eat.false c.eat.ensures.after
    (passed mark.Exit _ _ _ _ _ _ _ c.eat-else-eat.ensures.found c.if-eat-2.false c.eat-else-eat.ensures.after
    (begun mark.Return _ _ _ _ _ _ _ c.eat-else-eat-2.ensures.found c.if-eat-3.true c.eat-else-eat-2.ensures.after c.ended-then-eat-3.ensures))

pub returns-in_err-target : goal.returns-in_err-target
returns-in_err-target c =
    let e =
    simple_is c.args.cursor.now c.eat.new.self c.eat-else-eat.new.self c.eat-else-eat-2.new.self (sym c.eat.ensures.found ∙ c.if-eat.false) (sym c.eat.ensures.after)
    (sym c.eat-else-eat.ensures.found ∙ c.if-eat-2.false) (sym c.eat-else-eat.ensures.after) (sym c.eat-else-eat-2.ensures.found ∙ c.if-eat-3.false) (sym c.eat-else-eat-2.ensures.after) in
    let p = err_from_is_err_and c.from_residual.result c.from_residual.ensures.1 in
    rw (p.1, p.2) (stops_as _ _ _ _ e (stops _ _ _ _ c.in_err-target.ensures))

pub returns-in_ok-target : goal.returns-in_ok-target
returns-in_ok-target c =
    let e =
    simple_is c.args.cursor.now c.eat.new.self c.eat-else-eat.new.self c.eat-else-eat-2.new.self (sym c.eat.ensures.found ∙ c.if-eat.false) (sym c.eat.ensures.after)
    (sym c.eat-else-eat.ensures.found ∙ c.if-eat-2.false) (sym c.eat-else-eat.ensures.after) (sym c.eat-else-eat-2.ensures.found ∙ c.if-eat-3.false) (sym c.eat-else-eat-2.ensures.after) in
    let named = subst (λ (n : Name). Reads (ended mark.Semicolon (s.Assign n c.in_ok-target.value) c.pair.new.cursor) c.ended-else-eat-3.result c.ended-else-eat-3.new.cursor) c.new.ensures c.ended-else-eat-3.ensures in
    read_as _ _ _ _ e (goes_on _ _ _ _ _ _ c.in_ok-target.ensures named)
