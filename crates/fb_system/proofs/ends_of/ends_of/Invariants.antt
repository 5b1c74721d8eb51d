use Rattle.fb_types.specs.Headline.{system_of}
use Rattle.fb_system.specs.Ends.{AreSources}
use Rattle.fb_system.specs.PortRows.{ArePortRows}
use Rattle.fb_system.proofs.ends_of.ends_of.Given as goal

abbrev pub invariant-loop-instance : goal.invariant-loop-instance
invariant-loop-instance l = ArePortRows l.system l.ends × AreSources (system_of l.system) l.ends
