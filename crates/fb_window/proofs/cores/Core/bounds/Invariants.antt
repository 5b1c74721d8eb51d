use Rattle.fb_laws.specs.Cuts.{IsCut, StopAllows}
use Rattle.fb_window.proofs.lemmas.phases.Passes.{AreRaised, clock_of, stop_of}
use Rattle.fb_window.proofs.cores.Core.bounds.Given as goal

abbrev pub invariant-loop-number : goal.invariant-loop-number
invariant-loop-number l = AreRaised l.self.resources.items l.number l.initial.all l.all

abbrev pub invariant-loop-resource : goal.invariant-loop-resource
invariant-loop-resource l = IsCut (StopAllows clock_of stop_of l.resources) l.horizon l.resource-index l.last
