use Rattle.std.proofs.Common.{◌≡◌, ◌++◌, drop}
use Rattle.std.specs.List.{flat_map}
use Rattle.fb_draw.specs.Resources as spec
use Rattle.fb_draw.proofs.resource.put_resources.Given as goal

-- with what the rest adds, all is there
abbrev pub invariant-loop-resource : goal.invariant-loop-resource
invariant-loop-resource l = l.text.items ++ flat_map (spec.resource_cluster l.plan l.instances) (drop l.resource-index l.resources) ≡ l.fn.text.items ++ flat_map (spec.resource_cluster l.plan l.instances) l.resources
