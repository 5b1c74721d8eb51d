use Rattle.std.proofs.Common.{rules}
use Rattle.fbsim_line.proofs.levels.levels_of.Goals as goal

pub returns-clause-levels : goal.returns-clause-levels
returns-clause-levels c = record { allow = c.in_ok-allow.ensures; deny = c.in_ok-deny.ensures; of_warnings = search rules }
