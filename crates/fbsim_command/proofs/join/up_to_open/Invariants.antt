use Rattle.fbsim_command.proofs.lemmas.files.OpenLaws.{ArePassed}
use Rattle.fbsim_command.proofs.join.up_to_open.Given as goal

abbrev pub invariant-loop-i : goal.invariant-loop-i
invariant-loop-i l = ArePassed l.texts l.i
