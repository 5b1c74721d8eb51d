use Rattle.std.proofs.Common.{◌∙◌, arith}
use Rattle.fb_link.proofs.lemmas.LatencyTables.{latency_taken, latency_kept, latency_all, latency_within}
use Rattle.fb_link.proofs.arrivals.latency_at.Goals as goal
use Rattle.fb_link.proofs.arrivals.latency_at.Goals.{then-entry-sent_tick, else-entry-sent_tick}

pub loop-entry-preserved : goal.loop-entry-preserved
loop-entry-preserved c =
    elim c.if-entry-sent_tick.branch [
      | then-entry-sent_tick w ↦ latency_taken _ _ _ _ _ c.loop-entry-test.true w.if-entry-sent_tick.true w.ticks-is
      | else-entry-sent_tick w ↦ latency_kept _ _ _ _ _ c.loop-entry-test.true w.if-entry-sent_tick.false (w.ticks-is ∙ c.loop-entry.invariant)
    ]

pub returns : goal.returns
returns c =
    let latency = c.args.latency.now in
    let is = latency_all latency _ _ c.args.sent_tick _ c.entries-entry-items.ensures.value c.loop-entry-test.false c.loop-entry.invariant in
    let within = latency_within latency c.args.sent_tick c.entries-entry-items.ensures.table in
    record { value = is; least = omega arith; most = omega arith }
