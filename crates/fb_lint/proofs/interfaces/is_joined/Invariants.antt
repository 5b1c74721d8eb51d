use Rattle.fb_types.proofs.Common.{◌≡◌, drop, list_any}
use Rattle.fb_lint.specs.Interfaces.{joins}
use Rattle.fb_lint.proofs.interfaces.is_joined.Given as goal

abbrev pub invariant-loop-connection : goal.invariant-loop-connection
invariant-loop-connection l = list_any (joins l.port_kind l.name) l.connections ≡ list_any (joins l.port_kind l.name) (drop l.connection-index l.connections)
