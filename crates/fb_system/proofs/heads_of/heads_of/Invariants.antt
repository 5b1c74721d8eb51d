use Rattle.fb_types.specs.Headline.{system_of}
use Rattle.fb_system.specs.Heads.{AreHeads}
use Rattle.fb_system.proofs.heads_of.heads_of.Given as goal

abbrev pub invariant-loop-instance : goal.invariant-loop-instance
invariant-loop-instance l = AreHeads (system_of l.system) l.heads
