use Rattle.fb_session.proofs.lemmas.PeekIs.{peeks}
use Rattle.fb_session.proofs.session.Session.peek.Goals as goal

pub returns-in-Running : goal.returns-in-Running
returns-in-Running c = rw (← c.self.view_is) (peeks _ c.first.result c.in-Running.is c.first.ensures.some c.first.ensures.none)
