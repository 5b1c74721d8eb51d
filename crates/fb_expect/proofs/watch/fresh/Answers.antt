use Rattle.fb_expect.proofs.lemmas.rules.RulesOfAfter.{none-new, waits-new}
use Rattle.fb_expect.proofs.watch.fresh.Goals as goal

pub returns-then-hit : goal.returns-then-hit
returns-then-hit c = λ within hs number are. waits-new within c.args.line hs c.args.hit number c.if-hit.true are

pub returns-else-hit : goal.returns-else-hit
returns-else-hit c = λ within hs number are. none-new within hs c.args.hit c.if-hit.false are
