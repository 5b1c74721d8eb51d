use Rattle.fb_types.proofs.Common.{◌≡◌, drop, list_any}
use Rattle.fb_lint.specs.Instances.{leads_cold}
use Rattle.fb_lint.proofs.instances.has_cold.Given as goal

abbrev pub invariant-loop-connection : goal.invariant-loop-connection
invariant-loop-connection l = list_any (leads_cold l.instances l.instance) l.connections ≡ list_any (leads_cold l.instances l.instance) (drop l.connection-index l.connections)
