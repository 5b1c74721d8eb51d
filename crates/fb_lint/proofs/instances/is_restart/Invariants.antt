use Rattle.fb_types.proofs.Common.{◌≡◌, drop, list_any}
use Rattle.fb_lint.specs.Instances.{is_restart}
use Rattle.fb_lint.proofs.instances.is_restart.Given as goal

abbrev pub invariant-loop-instance : goal.invariant-loop-instance
invariant-loop-instance l = list_any (is_restart l.name) l.instances ≡ list_any (is_restart l.name) (drop l.instance-index l.instances)
