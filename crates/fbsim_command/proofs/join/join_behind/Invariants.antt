use Rattle.fbsim_command.proofs.lemmas.files.OpenLaws.{IsJoinedTo}
use Rattle.fbsim_command.proofs.join.join_behind.Given as goal

abbrev pub invariant-loop-text : goal.invariant-loop-text
invariant-loop-text l = IsJoinedTo l.initial.all.items l.all.items l.texts l.text-index
