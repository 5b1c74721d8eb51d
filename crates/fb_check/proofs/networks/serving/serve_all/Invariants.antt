use Rattle.std.proofs.Common.{take}
use Rattle.fb_check.proofs.lemmas.networks.CarriedData.{AreCarried}
use Rattle.fb_check.proofs.networks.serving.serve_all.Given as goal

abbrev pub invariant-loop-index : goal.invariant-loop-index
invariant-loop-index l = AreCarried l.library l.mapping (take l.index l.connections) l.events l.served
