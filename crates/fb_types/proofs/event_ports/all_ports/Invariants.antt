use Rattle.fb_types.proofs.Common.{◌≡◌, map, take, ports_of_event_block}
use Rattle.fb_types.proofs.lemmas.events.AllKinds.{kinds}
use Rattle.fb_types.proofs.event_ports.all_ports.Given as goal

abbrev pub invariant-loop-kind : goal.invariant-loop-kind
invariant-loop-kind l = l.all ≡ map ports_of_event_block (take l.kind-index kinds)
