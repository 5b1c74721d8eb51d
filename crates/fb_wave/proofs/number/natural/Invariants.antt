use Rattle.fb_wave.proofs.lemmas.Numerals.{Reads}
use Rattle.fb_wave.proofs.number.natural.Given as goal

abbrev pub invariant-loop-index : goal.invariant-loop-index
invariant-loop-index l = Reads l.value l.index l.text
