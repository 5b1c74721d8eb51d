use Rattle.std.proofs.Common.{sym, ap}
use Rattle.fb_check.specs.types.Unknown.{inputs_of}
use Rattle.fb_check.proofs.types.ends.input_of.Goals as goal

pub returns-in-Events : goal.returns-in-Events
returns-in-Events c = ap inputs_of (sym c.in-Events.is)

pub returns-in-Data : goal.returns-in-Data
returns-in-Data c = ap inputs_of (sym c.in-Data.is)
