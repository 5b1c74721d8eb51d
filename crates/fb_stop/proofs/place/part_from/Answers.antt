use Rattle.std.proofs.Common.{sym, ap}
use Rattle.fb_stop.specs.Places.{part_from}
use Rattle.fb_stop.proofs.place.part_from.Goals as goal

pub returns-in-Beginning : goal.returns-in-Beginning
returns-in-Beginning c = ap (part_from c.args.index c.args.statement) (sym c.in-Beginning.is)

pub returns-in-Elsif : goal.returns-in-Elsif
returns-in-Elsif c = ap (part_from c.args.index c.args.statement) (sym c.in-Elsif.is)

pub returns-in-Until : goal.returns-in-Until
returns-in-Until c = ap (part_from c.args.index c.args.statement) (sym c.in-Until.is)
