use Rattle.fb_window.proofs.lemmas.phases.Passes.{IsLeastOf}
use Rattle.fb_window.proofs.bounds.least_next.Given as goal

abbrev pub invariant-loop-resource : goal.invariant-loop-resource
invariant-loop-resource l = IsLeastOf l.resources l.resource-index l.horizon l.least
