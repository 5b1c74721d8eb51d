use Rattle.std.proofs.Common.{take}
use Rattle.fb_system.specs.Linking.{AreWays}
use Rattle.fb_system.proofs.links.ways_of.Given as goal

abbrev pub invariant-loop-number : goal.invariant-loop-number
invariant-loop-number l = AreWays (take l.number l.links) l.ways.items
