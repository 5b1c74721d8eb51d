use Rattle.fb_wave.proofs.lemmas.Valued.{AreSoFar}
use Rattle.fb_wave.proofs.values.values_of.Given as goal

abbrev pub invariant-loop-index : goal.invariant-loop-index
invariant-loop-index l = AreSoFar l.variables l.indexes l.text l.index-index l.values l.rest
