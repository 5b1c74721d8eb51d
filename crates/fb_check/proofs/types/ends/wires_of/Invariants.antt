use Rattle.fb_check.proofs.lemmas.Common.{◌≡◌, ◌++◌, drop, connection_number, placed, each_some, unknown_ends, each_at, each_from}
use Rattle.fb_check.proofs.types.ends.wires_of.Given as goal

abbrev pub invariant-loop-connection : goal.invariant-loop-connection
invariant-loop-connection l =
    (l.found.items ++ each_from (unknown_ends l.types.library.now l.site (placed l.scope) l.flow) l.connection (drop l.connection l.connections) ≡ l.fn.found.items ++ each_at (unknown_ends l.types.library.now l.site (placed l.scope) l.flow) l.connections)
    × (l.wires ++ each_some (connection_number l.types.library.now (placed l.scope) l.flow) (drop l.connection l.connections) ≡ each_some (connection_number l.types.library.now (placed l.scope) l.flow) l.connections)
