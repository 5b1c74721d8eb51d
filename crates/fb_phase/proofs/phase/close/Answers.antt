use Rattle.std.proofs.Common.{ap, subst}
use Rattle.std.specs.List.{AllZip}
use Rattle.fb_phase.proofs.phase.close.Goals as goal

-- the board is what its only share showed
pub returns-in-Ok : goal.returns-in-Ok
returns-in-Ok g c = subst (λ jobs. AllZip g.W.Deal.does jobs c.in-Ok.done.items) (ap (λ b. b.jobs) c.in-Some.ensures) c.in-Ok.ensures.done
