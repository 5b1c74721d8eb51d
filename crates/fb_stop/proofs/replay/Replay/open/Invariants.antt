use Rattle.fb_types.proofs.Common.{system_of, opening_state}
use Rattle.fb_net.specs.Opening.{AreCharts}
use Rattle.fb_stop.specs.Copies.{AreCopies}
use Rattle.fb_stop.proofs.replay.Replay.open.Given as goal

abbrev pub invariant-loop-instance : goal.invariant-loop-instance
invariant-loop-instance l = record {
  copies : AreCopies l.system l.instance (opening_state (system_of l.system)) l.copies.items;
  charts : AreCharts l.system l.charts;
}
