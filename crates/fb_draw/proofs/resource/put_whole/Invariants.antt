use Rattle.fb_types.proofs.Common.{◌≡◌, ◌++◌, drop}
use Rattle.fb_types.specs.declared.library.Instance.{Instance}
use Rattle.std.specs.List.{flat_map}
use Rattle.fb_draw.specs.Resources as spec
use Rattle.fb_draw.proofs.resource.put_whole.Given as goal

-- with what the rest adds, all is there
abbrev pub invariant-loop-instance : goal.invariant-loop-instance
invariant-loop-instance l = l.text.items ++ flat_map (λ (i : Instance). spec.member i.name) (drop l.instance-index l.instances) ≡ l.fn.text.items ++ flat_map (λ (i : Instance). spec.member i.name) l.instances
