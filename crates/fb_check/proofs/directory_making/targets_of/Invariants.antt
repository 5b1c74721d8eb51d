use Rattle.fb_check.proofs.lemmas.Common.{take, AreTargets}
use Rattle.fb_check.proofs.directory_making.targets_of.Given as goal

abbrev pub invariant-loop-connection : goal.invariant-loop-connection
invariant-loop-connection l = AreTargets (take l.connection-index l.connections) l.targets
