use Rattle.fb_types.proofs.Common.{◌≡◌, drop, list_any}
use Rattle.fb_lint.specs.Networks.{holds}
use Rattle.fb_lint.proofs.links.is_held.Given as goal

abbrev pub invariant-loop-resource : goal.invariant-loop-resource
invariant-loop-resource l = list_any (holds l.name l.instance) l.resources ≡ list_any (holds l.name l.instance) (drop l.resource-index l.resources)
