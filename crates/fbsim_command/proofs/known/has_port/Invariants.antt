use Rattle.fb_types.proofs.Common.{◌≡◌, false, system_of}
use Rattle.fbsim_command.specs.Known.{any_below, any_port}
use Rattle.fbsim_command.proofs.known.has_port.Given as goal

abbrev pub invariant-loop-instance : goal.invariant-loop-instance
invariant-loop-instance l = any_below (any_port (system_of l.system) l.pattern) l.instance ≡ false
