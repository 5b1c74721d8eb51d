use Rattle.fb_types.proofs.Common.{subst, AreAccepted}
use Rattle.fb_window.proofs.links.SystemLinks.facts.Goals as goal

pub returns-clause-accepted : goal.returns-clause-accepted
returns-clause-accepted c = subst AreAccepted c.self.view_is c.self.invariant.good.accepted
