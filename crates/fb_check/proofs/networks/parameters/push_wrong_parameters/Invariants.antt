use Rattle.fb_check.proofs.lemmas.Common.{◌≡◌, ◌++◌, drop, each_at, each_from, kind_wrong_parameters}
use Rattle.fb_check.proofs.networks.parameters.push_wrong_parameters.Given as goal

abbrev pub invariant-loop-instance : goal.invariant-loop-instance
invariant-loop-instance l =
    l.found.items ++ each_from (kind_wrong_parameters l.library l.site) l.instance (drop l.instance l.instances) ≡ l.fn.found.items ++ each_at (kind_wrong_parameters l.library l.site) l.instances
