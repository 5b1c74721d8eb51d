use Rattle.fb_types.proofs.Common.{◌≡◌, drop, list_any}
use Rattle.fb_lint.specs.Networks.{is_of_type}
use Rattle.fb_lint.proofs.networks.has_instance.Given as goal

abbrev pub invariant-loop-instance : goal.invariant-loop-instance
invariant-loop-instance l = list_any (is_of_type l.name) l.instances ≡ list_any (is_of_type l.name) (drop l.instance-index l.instances)
