use Rattle.fb_types.proofs.Common.{◌≡◌, false, system_of}
use Rattle.fbsim_command.specs.Known.{any_below, is_of}
use Rattle.fbsim_command.proofs.known.any_event.Given as goal

abbrev pub invariant-loop-event : goal.invariant-loop-event
invariant-loop-event l = any_below (is_of (system_of l.system) l.pattern l.instance l.taken) l.event ≡ false
