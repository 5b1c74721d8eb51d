use Rattle.std.proofs.Common.{sym}
use Rattle.fb_agenda.proofs.least.Least.hold.Goals as goal

pub returns-in_default : goal.returns-in_default
returns-in_default c = sym c.in_default.is

pub returns : goal.returns
returns c = sym c.in-Some.is
