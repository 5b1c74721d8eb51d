use Rattle.fb_net.proofs.lemmas.values.ReadIndexes.{AreReadUpTo, sampled_at}
use Rattle.fb_net.proofs.taking.samples.sampled_each.Given as goal

abbrev pub invariant-loop-index : goal.invariant-loop-index
invariant-loop-index l =
    AreReadUpTo l.system l.forest l.at.instance (sampled_at l.system l.forest l.at.instance) l.index-index l.indexes l.values
