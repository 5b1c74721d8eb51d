use Rattle.fb_types.proofs.Common.{◌≡◌, drop, list_any}
use Rattle.fb_lint.specs.Instances.{is_bare}
use Rattle.fb_lint.proofs.instances.is_bare.Given as goal

abbrev pub invariant-loop-input : goal.invariant-loop-input
invariant-loop-input l = list_any (is_bare l.name) l.inputs ≡ list_any (is_bare l.name) (drop l.input-index l.inputs)
