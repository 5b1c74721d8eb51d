use Rattle.std.proofs.Common.{arith}
use Rattle.fb_check.proofs.lemmas.networks.Marked.{marks_more, marks_done}
use Rattle.fb_check.proofs.networks.heights.marks_after.Goals as goal

pub loop-round-preserved : goal.loop-round-preserved
loop-round-preserved c = marks_more _ _ _ _ _ c.loop-round.invariant c.deref.ensures.value c.in_ok-marks-2.ensures

pub returns : goal.returns
returns c = marks_done _ _ _ _ c.loop-round.invariant (omega arith)
