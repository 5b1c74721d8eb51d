use Rattle.fb_types.proofs.Common.{◌≡◌, drop, list_any}
use Rattle.fb_lint.specs.Outputs.{is_instance}
use Rattle.fb_lint.proofs.outputs.is_instance_of.Given as goal

abbrev pub invariant-loop-instance : goal.invariant-loop-instance
invariant-loop-instance l = list_any (is_instance l.of l.name) l.instances ≡ list_any (is_instance l.of l.name) (drop l.instance-index l.instances)
