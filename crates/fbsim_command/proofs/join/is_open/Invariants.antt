use Rattle.std.proofs.Common.{◌≡◌, drop}
use Rattle.fbsim_command.specs.Joining.{is_open, is_open_from}
use Rattle.fbsim_command.proofs.join.is_open.Given as goal

abbrev pub invariant-loop-i : goal.invariant-loop-i
invariant-loop-i l = is_open_from l.within (drop l.i l.text) ≡ is_open l.text
