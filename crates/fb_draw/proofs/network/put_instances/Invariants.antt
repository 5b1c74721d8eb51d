use Rattle.std.proofs.Common.{◌≡◌, ◌++◌, drop}
use Rattle.std.specs.List.{flat_map}
use Rattle.fb_draw.specs.Networks as spec
use Rattle.fb_draw.proofs.network.put_instances.Given as goal

-- with what the rest adds, all is there
abbrev pub invariant-loop-instance : goal.invariant-loop-instance
invariant-loop-instance l = l.text.items ++ flat_map (spec.instance_node l.library) (drop l.instance-index l.instances) ≡ l.fn.text.items ++ flat_map (spec.instance_node l.library) l.instances
