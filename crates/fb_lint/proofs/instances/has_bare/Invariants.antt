use Rattle.fb_types.proofs.Common.{◌≡◌, drop, list_any}
use Rattle.fb_lint.specs.Instances.{names_bare}
use Rattle.fb_lint.proofs.instances.has_bare.Given as goal

abbrev pub invariant-loop-name : goal.invariant-loop-name
invariant-loop-name l = list_any (names_bare l.inputs) l.names ≡ list_any (names_bare l.inputs) (drop l.name-index l.names)
