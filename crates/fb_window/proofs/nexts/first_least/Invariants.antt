use Rattle.fb_window.proofs.lemmas.bounds.NextTicks.{IsLeastTick}
use Rattle.fb_window.proofs.nexts.first_least.Given as goal

abbrev pub invariant-loop-index : goal.invariant-loop-index
invariant-loop-index l = IsLeastTick l.horizon l.ticks l.index l.first l.least
