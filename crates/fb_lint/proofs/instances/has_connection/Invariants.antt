use Rattle.fb_types.proofs.Common.{◌≡◌, drop, list_any}
use Rattle.fb_lint.specs.Instances.{leads_into}
use Rattle.fb_lint.proofs.instances.has_connection.Given as goal

abbrev pub invariant-loop-connection : goal.invariant-loop-connection
invariant-loop-connection l = list_any (leads_into l.instance) l.connections ≡ list_any (leads_into l.instance) (drop l.connection-index l.connections)
