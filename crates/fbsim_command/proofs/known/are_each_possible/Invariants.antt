use Rattle.std.proofs.Common.{◌≡◌, drop, map}
use Rattle.fb_system.specs.IndexLists.{variable_at}
use Rattle.fbsim_command.specs.Known.{are_each_possible}
use Rattle.fbsim_command.proofs.known.are_each_possible.Given as goal

abbrev pub invariant-loop-condition : goal.invariant-loop-condition
invariant-loop-condition l =
    are_each_possible l.variables l.conditions (map (variable_at l.variables) l.indexes) ≡ are_each_possible l.variables (drop l.condition-index l.conditions) (map (variable_at l.variables) l.indexes)
