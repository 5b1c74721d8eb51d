use Rattle.fb_types.proofs.Common.{◌≡◌, drop, list_any}
use Rattle.fb_lint.specs.Networks.{comes_from}
use Rattle.fb_lint.proofs.networks.is_read_at.Given as goal

abbrev pub invariant-loop-connection : goal.invariant-loop-connection
invariant-loop-connection l = list_any (comes_from l.instance l.output) l.connections ≡ list_any (comes_from l.instance l.output) (drop l.connection-index l.connections)
