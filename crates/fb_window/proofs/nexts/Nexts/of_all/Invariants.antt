use Rattle.fb_window.proofs.lemmas.bounds.NextTicks.{AreCurrentTo}
use Rattle.fb_window.proofs.nexts.Nexts.of_all.Given as goal

abbrev pub invariant-loop-resource : goal.invariant-loop-resource
invariant-loop-resource l = AreCurrentTo l.horizon l.resources l.resource-index l.ticks.items
