use Rattle.std.proofs.Common.{arith}
use Rattle.fb_check.proofs.lemmas.networks.Counted.{counts_more, counts_done}
use Rattle.fb_check.proofs.networks.counts.counts_after.Goals as goal

pub loop-round-preserved : goal.loop-round-preserved
loop-round-preserved c = counts_more _ _ _ _ _ c.loop-round.invariant c.deref.ensures.value c.in_ok-counts-2.ensures

pub returns : goal.returns
returns c = counts_done _ _ _ _ c.loop-round.invariant (omega arith)
