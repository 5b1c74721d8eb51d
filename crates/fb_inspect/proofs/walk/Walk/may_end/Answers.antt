use Rattle.fb_inspect.proofs.lemmas.Common.{subst, ending_of, Outcome, MayEnd}
use Rattle.fb_inspect.proofs.lemmas.lines.NearStop.{keeps_of}
use Rattle.fb_inspect.proofs.walk.Walk.may_end.Goals as goal

pub returns-then-has_used-clause-other : goal.returns-then-has_used-clause-other
returns-then-has_used-clause-other c = λ sys look is can no may. c.keep_steps.ensures.more sys look is no (keeps_of sys c.args.steps look c.in-Stop.mark.tick c.in-Stop.mark.resource c.in-Stop.mark.reason (subst (λ (e : Outcome). MayEnd sys c.args.steps look (ending_of e)) c.in-Stop.is may))
