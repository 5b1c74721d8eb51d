use Rattle.std.proofs.Common.{take}
use Rattle.fb_net.specs.Opening.{AreCharts, AreGrown}
use Rattle.fb_net.proofs.opening.trees.+blocks_of.Given as goal

abbrev pub decreases-blocks_of : goal.decreases-blocks_of
decreases-blocks_of l = l.depth

abbrev pub invariant-loop-instance : goal.invariant-loop-instance
invariant-loop-instance l = record {
  grown : AreGrown l.system l.depth (take l.instance-index l.instances) l.blocks;
  charts : AreCharts l.system l.charts;
}
