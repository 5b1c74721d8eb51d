use Rattle.fb_check.proofs.lemmas.Common.{◌≡◌, ◌++◌, drop, each_at, each_from}
use Rattle.fb_check.specs.networks.NoEvent.{no_event_at}
use Rattle.fb_check.proofs.networks.uncarried.no_event_connections.Given as goal

abbrev pub invariant-loop-connection : goal.invariant-loop-connection
invariant-loop-connection l =
    l.found.items ++ each_from (no_event_at l.library l.plan) l.connection (drop l.connection l.connections) ≡ each_at (no_event_at l.library l.plan) l.connections
