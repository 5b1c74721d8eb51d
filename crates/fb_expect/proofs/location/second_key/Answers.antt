use Rattle.std.proofs.Common.{sym, ap}
use Rattle.fb_expect.specs.Locations.{second_key}
use Rattle.fb_expect.proofs.location.second_key.Goals as goal

pub returns-in-Not : goal.returns-in-Not
returns-in-Not c = sym (ap second_key c.in-Not.is)
