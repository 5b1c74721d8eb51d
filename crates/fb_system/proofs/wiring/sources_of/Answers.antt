use Rattle.fb_system.proofs.lemmas.rows.WireTables.{table_more}
use Rattle.fb_system.proofs.wiring.sources_of.Goals as goal

pub loop-wire-preserved : goal.loop-wire-preserved
loop-wire-preserved c = table_more (λ w. w.to) (λ w. w.from) c.args.wires.now c.loop-wire.wire-index _ c.loop-wire.table c.push.new.self c.loop-wire-test.true c.loop-wire.invariant c.in_ok-push.ensures
