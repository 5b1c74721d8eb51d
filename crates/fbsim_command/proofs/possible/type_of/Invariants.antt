use Rattle.std.proofs.Common.{◌≡◌, drop}
use Rattle.fbsim_command.specs.Possible.{type_of}
use Rattle.fbsim_command.proofs.possible.type_of.Given as goal

abbrev pub invariant-loop-variable : goal.invariant-loop-variable
invariant-loop-variable l = type_of l.variables l.name ≡ type_of (drop l.variable-index l.variables) l.name
