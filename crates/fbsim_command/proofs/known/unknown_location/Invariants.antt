use Rattle.fb_types.proofs.Common.{◌≡◌, drop, system_of}
use Rattle.fbsim_command.specs.Known.{has_names}
use Rattle.fbsim_command.proofs.known.unknown_location.Given as goal

abbrev pub invariant-loop-index : goal.invariant-loop-index
invariant-loop-index l = has_names (system_of l.system) l.rules ≡ has_names (system_of l.system) (drop l.index l.rules)
