use Rattle.fb_check.proofs.lemmas.Common.{◌≡◌, ◌++◌, Some, drop, Instance, number_in, each_some, unknown_in_instance, each_at, each_from}
use Rattle.fb_check.specs.types.Scopes.{inputs_in}
use Rattle.fb_check.proofs.types.networks.push_instances.Given as goal

abbrev pub invariant-loop-instance : goal.invariant-loop-instance
invariant-loop-instance l =
    (l.found.items ++ each_from (unknown_in_instance l.types.library.now l.site) l.instance (drop l.instance l.instances) ≡ l.fn.found.items ++ each_at (unknown_in_instance l.types.library.now l.site) l.instances)
    × (l.kinds ++ each_some (λ (i : Instance). Some (number_in l.types.library.now i.block_type)) (drop l.instance l.instances) ≡ l.fn.kinds ++ each_some (λ (i : Instance). Some (number_in l.types.library.now i.block_type)) l.instances)
    × (l.inputs ++ each_some (λ (i : Instance). Some (inputs_in l.types.library.now i)) (drop l.instance l.instances) ≡ l.fn.inputs ++ each_some (λ (i : Instance). Some (inputs_in l.types.library.now i)) l.instances)
