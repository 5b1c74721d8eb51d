use Rattle.std.proofs.Common.{subst, IfOk}
use Rattle.std.specs.List.{AllZip}
use Rattle.fb_phase.proofs.crew.Crew.finish.Goals as goal

-- the phase is seen as its board's jobs
pub returns : goal.returns
returns g c = subst (λ jobs. IfOk c.close.result (λ v. AllZip g.W.Deal.does jobs v.items)) c.phase.view_is c.close.ensures
