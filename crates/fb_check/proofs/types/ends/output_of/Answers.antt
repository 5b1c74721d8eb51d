use Rattle.std.proofs.Common.{sym, ap}
use Rattle.fb_check.specs.types.Unknown.{outputs_of}
use Rattle.fb_check.proofs.types.ends.output_of.Goals as goal

pub returns-in-Events : goal.returns-in-Events
returns-in-Events c = ap outputs_of (sym c.in-Events.is)

pub returns-in-Data : goal.returns-in-Data
returns-in-Data c = ap outputs_of (sym c.in-Data.is)
