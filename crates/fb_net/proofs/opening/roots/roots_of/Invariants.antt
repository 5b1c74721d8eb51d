use Rattle.std.proofs.Common.{take}
use Rattle.fb_net.specs.Opening.{AreRoots}
use Rattle.fb_net.proofs.opening.roots.roots_of.Given as goal

abbrev pub invariant-loop-instance : goal.invariant-loop-instance
invariant-loop-instance l = AreRoots l.system l.resource (take l.instance-index l.all) l.indexes l.instances
