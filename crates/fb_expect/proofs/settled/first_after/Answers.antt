use Rattle.std.proofs.Common.{Option, Some, sym, subst}
use Rattle.fb_expect.specs.Deciding.{FirstOn}
use Rattle.fb_expect.specs.declared.watch.Mark.{Mark}
use Rattle.fb_expect.proofs.lemmas.rules.Settling.{first-kept, first-new, first-none}
use Rattle.fb_expect.proofs.settled.first_after.Goals as goal

pub returns-in-Some : goal.returns-in-Some
returns-in-Some c =
    subst (λ (o : Option Mark). FirstOn o c.args.line c.args.hit (Some c.in-Some.mark)) (sym c.in-Some.is) (first-kept c.args.line c.args.hit c.in-Some.mark)
