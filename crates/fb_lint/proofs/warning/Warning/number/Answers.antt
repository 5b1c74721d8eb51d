use Rattle.std.proofs.Common.{sym, ap}
use Rattle.fb_lint.specs.Numbers.{number_of}
use Rattle.fb_lint.proofs.warning.Warning.number.Goals as goal

pub returns-in-UnusedLink : goal.returns-in-UnusedLink
returns-in-UnusedLink c = sym (ap number_of c.in-UnusedLink.is)
