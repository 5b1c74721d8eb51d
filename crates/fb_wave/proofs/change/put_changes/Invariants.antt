use Rattle.fb_wave.proofs.lemmas.Turning.{IsTurned}
use Rattle.fb_wave.proofs.change.put_changes.Given as goal

abbrev pub invariant-loop-index : goal.invariant-loop-index
invariant-loop-index l = IsTurned l.initial.text.items l.text.items l.initial.levels l.levels l.index
