use Rattle.fb_types.proofs.Common.{system_of, opening_state}
use Rattle.fb_net.proofs.lemmas.blocks.Charts.{no_charts}
use Rattle.fb_stop.proofs.lemmas.copies.Copying.{copies_more, no_copies}
use Rattle.fb_stop.proofs.replay.Replay.open.Goals as goal

pub loop-instance-init : goal.loop-instance-init
loop-instance-init c = record {
  copies = rw c.new-copies.ensures.items (no_copies c.args.system.now (opening_state (system_of c.args.system.now)));
  charts = no_charts c.args.system.now c.new-charts.result c.new-charts.ensures.empty;
}

pub loop-instance-preserved : goal.loop-instance-preserved
loop-instance-preserved c = record {
  copies = copies_more c.args.system.now c.loop-instance.instance (opening_state (system_of c.args.system.now)) c.loop-instance.copies.items c.push.new.self.items c.in_ok-copy.copy
      c.loop-instance.invariant.copies c.in_ok-push.ensures.items c.in_ok-copy.ensures.copy;
  charts = c.in_ok-copy.ensures.charts;
}
