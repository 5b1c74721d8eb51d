use Rattle.fb_wave.proofs.lemmas.Spelled.{Spells}
use Rattle.fb_wave.proofs.digits.write_digits.Given as goal

abbrev pub invariant-loop-start : goal.invariant-loop-start
invariant-loop-start l = Spells l.base l.number l.rest l.start l.indexes

abbrev pub decreases-loop-start : goal.decreases-loop-start
decreases-loop-start l = l.start
