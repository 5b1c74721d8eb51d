use Rattle.std.proofs.Common.{refl}
use Rattle.fb_agenda.proofs.least.Least.hold_target.Goals as goal

pub returns-in-Local-clause-event : goal.returns-in-Local-clause-event
returns-in-Local-clause-event c = refl
