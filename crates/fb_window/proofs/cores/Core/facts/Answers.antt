use Rattle.fb_window.proofs.lemmas.Common.{subst, IsReached, CoreState}
use Rattle.fb_window.proofs.cores.Core.facts.Goals as goal

pub returns : goal.returns
returns c = subst (λ (s : CoreState). IsReached s) c.self.view_is c.self.invariant
