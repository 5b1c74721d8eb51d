use Rattle.fb_expect.proofs.lemmas.Common.{subst, Option, Mark, KnowsSee}
use Rattle.fb_expect.proofs.lemmas.rules.RulesOfAfter.{answers, none-waits}
use Rattle.fb_expect.proofs.lemmas.rules.Stepping.{wait-on}
use Rattle.fb_expect.proofs.watch.mark_after.Goals as goal

pub returns-then-hit : goal.returns-then-hit
returns-then-hit c = λ within hs number below time knows. c.fresh.ensures within hs number (answers within hs c.args.hit c.args.mark c.if-hit.true time knows)

pub returns-in-Some : goal.returns-in-Some
returns-in-Some c = wait-on c.args.line c.args.mark c.args.hit c.in-Some.mark c.in-Some.is c.if-hit.false

pub returns-in-None : goal.returns-in-None
returns-in-None c = λ within hs number below time knows.
    c.fresh-in-None.ensures within hs number (none-waits within hs c.args.hit (subst (λ (o : Option Mark). KnowsSee within hs o) c.in-None.is knows))
