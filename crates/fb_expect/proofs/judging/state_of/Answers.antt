use Rattle.fb_expect.specs.Paired.{within_of}
use Rattle.fb_expect.proofs.lemmas.rules.Following.{begin-alone, begin-paired}
use Rattle.fb_expect.proofs.judging.state_of.Goals as goal

pub returns-in-Some : goal.returns-in-Some
returns-in-Some c = begin-paired c.args.rule.now _ c.new.result c.in-Some.is (c.new.ensures (within_of c.args.rule.now.need) _)

pub returns-in-None : goal.returns-in-None
returns-in-None c = begin-alone c.args.rule.now c.begin.result c.in-None.is c.begin.ensures
