use Rattle.fb_types.proofs.Common.{◌≡◌, drop, list_any}
use Rattle.fb_lint.specs.Parameters.{lacks}
use Rattle.fb_lint.proofs.parameters.has_lacking.Given as goal

abbrev pub invariant-loop-instance : goal.invariant-loop-instance
invariant-loop-instance l = list_any (lacks l.of l.input) l.instances ≡ list_any (lacks l.of l.input) (drop l.instance-index l.instances)
