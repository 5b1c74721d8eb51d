use Rattle.fbsim_command.specs.Joining.{counts}
use Rattle.fbsim_command.proofs.lemmas.files.LinesLaws.{AreLeft}
use Rattle.fbsim_command.proofs.join.line_in_file.Given as goal

abbrev pub invariant-loop-i : goal.invariant-loop-i
invariant-loop-i l = AreLeft (counts l.lines) l.whole l.i l.left
