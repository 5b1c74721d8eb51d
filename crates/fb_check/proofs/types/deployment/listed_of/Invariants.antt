use Rattle.fb_check.proofs.lemmas.Common.{◌≡◌, ◌++◌, drop, index_in, each_some, mapped_unless, each_at, each_from}
use Rattle.fb_check.proofs.types.deployment.listed_of.Given as goal

abbrev pub invariant-loop-instance : goal.invariant-loop-instance
invariant-loop-instance l =
    (l.found.items ++ each_from (mapped_unless l.instances l.resource) l.instance (drop l.instance l.names) ≡ l.fn.found.items ++ each_at (mapped_unless l.instances l.resource) l.names)
    × (l.numbers ++ each_some (index_in l.instances) (drop l.instance l.names) ≡ each_some (index_in l.instances) l.names)
