use Rattle.fb_expect.proofs.lemmas.Common.{◌+◌, ◌<◌, sym, subst, arith, Option, both_ways, Mark}
use Rattle.fb_expect.specs.Watching.{InTime}
use Rattle.fb_expect.proofs.watch.overdue.Goals as goal

pub returns-else-is_past : goal.returns-else-is_past
returns-else-is_past c =
    let soon : (c.in-Some.late.tick + c.args.within < c.args.tick → ⊥) =
    λ (over : c.in-Some.late.tick + c.args.within < c.args.tick). both_ways c.is_past.result c.if-is_past.false (c.is_past.ensures.1 over)
    in
    subst (λ (o : Option Mark). InTime c.args.within o c.args.tick) (sym c.in-Some.is) (omega (arith, soon))

pub returns-in-None : goal.returns-in-None
returns-in-None c = subst (λ (o : Option Mark). InTime c.args.within o c.args.tick) (sym c.in-None.is) tt
