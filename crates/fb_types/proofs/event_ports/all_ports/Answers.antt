use Rattle.std.proofs.Common.{arith}
use Rattle.fb_types.proofs.lemmas.events.AllKinds.{ports_next, ports_all}
use Rattle.fb_types.proofs.event_ports.all_ports.Goals as goal

pub loop-kind-preserved : goal.loop-kind-preserved
loop-kind-preserved c = ports_next _ _ _ _ c.loop-kind-test.true c.in_ok-ports_of.ensures c.loop-kind.invariant c.in_ok-push.ensures.ok

pub returns : goal.returns
returns c = ports_all c.loop-kind.kind-index _ (omega arith) c.loop-kind.invariant
