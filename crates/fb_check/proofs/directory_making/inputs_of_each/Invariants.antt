use Rattle.fb_check.proofs.lemmas.Common.{map, take, AreInputs}
use Rattle.fb_check.proofs.directory_making.inputs_of_each.Given as goal

abbrev pub invariant-loop-each : goal.invariant-loop-each
invariant-loop-each g l = AreInputs (map g.T.Interfaced.ports (take l.each-index l.all)) l.inputs
