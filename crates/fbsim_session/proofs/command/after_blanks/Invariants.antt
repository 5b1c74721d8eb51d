use Rattle.std.proofs.Common.{◌≡◌, drop}
use Rattle.fbsim_session.specs.Commands.{after_blanks}
use Rattle.fbsim_session.proofs.command.after_blanks.Given as goal

abbrev pub invariant-loop-at : goal.invariant-loop-at
invariant-loop-at l = after_blanks (drop l.at l.text) ≡ after_blanks l.text
