use Rattle.fb_check.proofs.lemmas.Common.{◌≡◌, ◌++◌, drop, each_at, each_from, no_link_at}
use Rattle.fb_check.proofs.networks.links.push_no_link.Given as goal

abbrev pub invariant-loop-connection : goal.invariant-loop-connection
invariant-loop-connection l =
    l.found.items ++ each_from (no_link_at l.plan l.flow) l.connection (drop l.connection l.connections) ≡ l.fn.found.items ++ each_at (no_link_at l.plan l.flow) l.connections
