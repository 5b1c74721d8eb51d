use Rattle.fb_types.proofs.Common.{◌≡◌, drop, list_any}
use Rattle.fb_lint.specs.Networks.{leads_to}
use Rattle.fb_lint.proofs.networks.has_source.Given as goal

abbrev pub invariant-loop-connection : goal.invariant-loop-connection
invariant-loop-connection l = list_any (leads_to l.instance l.input) l.connections ≡ list_any (leads_to l.instance l.input) (drop l.connection-index l.connections)
