use Rattle.fbsim_line.specs.Line.{kinds, program}
use Rattle.fbsim_line.proofs.lemmas.BuildLaws.{Joins}
use Rattle.fbsim_line.proofs.line.simulator.Given as goal

abbrev pub invariant-loop-kind : goal.invariant-loop-kind
invariant-loop-kind l = Joins l.forms program kinds l.kind-index l.command
