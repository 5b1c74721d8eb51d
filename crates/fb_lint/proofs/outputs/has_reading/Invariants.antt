use Rattle.fb_types.proofs.Common.{◌≡◌, drop, list_any}
use Rattle.fb_lint.specs.Outputs.{reads}
use Rattle.fb_lint.proofs.outputs.has_reading.Given as goal

abbrev pub invariant-loop-connection : goal.invariant-loop-connection
invariant-loop-connection l = list_any (reads l.instances l.of l.output) l.connections ≡ list_any (reads l.instances l.of l.output) (drop l.connection-index l.connections)
