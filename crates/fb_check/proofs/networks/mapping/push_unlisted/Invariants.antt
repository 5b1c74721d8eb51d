use Rattle.fb_check.proofs.lemmas.Common.{◌≡◌, ◌++◌, drop, each_at, each_from}
use Rattle.fb_check.specs.networks.Mapping.{unlisted_by}
use Rattle.fb_check.proofs.networks.mapping.push_unlisted.Given as goal

abbrev pub invariant-loop-instance : goal.invariant-loop-instance
invariant-loop-instance l = l.found.items ++ each_from (unlisted_by l.indexes) l.instance (drop l.instance l.instances) ≡ l.fn.found.items ++ each_at (unlisted_by l.indexes) l.instances
