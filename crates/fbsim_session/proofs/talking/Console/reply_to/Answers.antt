use Rattle.fbsim_session.proofs.lemmas.Telling.{stays, stays_as}
use Rattle.fbsim_session.proofs.talking.Console.reply_to.Goals as goal

pub returns-in-Show : goal.returns-in-Show
returns-in-Show c = stays_as _ _ c.show.ensures

pub returns-in-Peek : goal.returns-in-Peek
returns-in-Peek c = stays_as _ _ c.peek.ensures

pub returns-in-Help : goal.returns-in-Help
returns-in-Help c = stays _

pub returns-in-Wrong : goal.returns-in-Wrong
returns-in-Wrong c = stays_as _ _ c.error.ensures

pub returns-in-Until : goal.returns-in-Until
returns-in-Until c = stays_as _ _ c.error-in-Until.ensures

pub returns-in-Next : goal.returns-in-Next
returns-in-Next c = stays_as _ _ c.error-in-Next.ensures

pub returns-in-End : goal.returns-in-End
returns-in-End c = stays_as _ _ c.error-in-End.ensures
