use Rattle.fb_types.proofs.Common.{◌≡◌, drop, system_of}
use Rattle.fbsim_command.specs.Known.{has_names}
use Rattle.fbsim_command.proofs.known.has_names.Given as goal

abbrev pub invariant-loop-rule : goal.invariant-loop-rule
invariant-loop-rule l = has_names (system_of l.system) l.rules ≡ has_names (system_of l.system) (drop l.rule-index l.rules)
