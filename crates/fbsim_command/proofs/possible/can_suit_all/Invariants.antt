use Rattle.std.proofs.Common.{◌≡◌, drop}
use Rattle.fbsim_command.specs.Possible.{can_suit_all}
use Rattle.fbsim_command.proofs.possible.can_suit_all.Given as goal

abbrev pub invariant-loop-variable : goal.invariant-loop-variable
invariant-loop-variable l = can_suit_all l.variables l.conditions ≡ can_suit_all (drop l.variable-index l.variables) l.conditions
