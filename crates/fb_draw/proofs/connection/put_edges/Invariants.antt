use Rattle.std.proofs.Common.{◌≡◌, ◌++◌, drop}
use Rattle.std.specs.List.{flat_map}
use Rattle.fb_draw.specs.Networks as spec
use Rattle.fb_draw.proofs.connection.put_edges.Given as goal

-- with what the rest adds, all is there
abbrev pub invariant-loop-connection : goal.invariant-loop-connection
invariant-loop-connection l = l.text.items ++ flat_map (spec.edge l.attributes) (drop l.connection-index l.connections) ≡ l.fn.text.items ++ flat_map (spec.edge l.attributes) l.connections
