use Rattle.std.proofs.Common.{sym, ap}
use Rattle.fb_expect.specs.Locations.{number_at}
use Rattle.fb_expect.proofs.location.RulesLocation.number.Goals as goal

pub returns-in-Pattern : goal.returns-in-Pattern
returns-in-Pattern c = sym (ap number_at c.in-Pattern.is)
