use Rattle.fb_wave.proofs.lemmas.Common.{◌≡◌, ◌++◌, closed}
use Rattle.fb_wave.proofs.scopes.put_closed.Given as goal

abbrev pub invariant-loop-left : goal.invariant-loop-left
invariant-loop-left l = l.text.items ++ closed l.left ≡ l.initial.text.items ++ closed l.count

abbrev pub decreases-loop-left : goal.decreases-loop-left
decreases-loop-left l = l.left
