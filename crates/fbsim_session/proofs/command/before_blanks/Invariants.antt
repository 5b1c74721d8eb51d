use Rattle.std.proofs.Common.{◌≡◌, ◌≤◌, take}
use Rattle.fbsim_session.specs.Commands.{before_blanks}
use Rattle.fbsim_session.proofs.command.before_blanks.Given as goal

abbrev pub invariant-loop-at : goal.invariant-loop-at
invariant-loop-at l = (l.end ≤ l.at) × (before_blanks (take l.at l.text) ≡ take l.end l.text)
