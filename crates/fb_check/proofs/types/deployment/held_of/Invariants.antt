use Rattle.fb_check.proofs.lemmas.Common.{◌≡◌, ◌++◌, Some, drop, ResourceEntry, index_in, each_some, mapped_unless, each_at, each_from}
use Rattle.fb_check.proofs.types.deployment.held_of.Given as goal

abbrev pub invariant-loop-resource : goal.invariant-loop-resource
invariant-loop-resource l =
    (l.found.items ++ each_from (λ r (x : ResourceEntry). each_at (mapped_unless l.instances r) x.instances) l.resource (drop l.resource l.resources) ≡ l.fn.found.items ++ each_at (λ r (x : ResourceEntry). each_at (mapped_unless l.instances r) x.instances) l.resources)
    × (l.held ++ each_some (λ (x : ResourceEntry). Some (each_some (index_in l.instances) x.instances)) (drop l.resource l.resources) ≡ each_some (λ (x : ResourceEntry). Some (each_some (index_in l.instances) x.instances)) l.resources)
