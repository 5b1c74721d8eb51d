use Rattle.fb_check.proofs.lemmas.Common.{◌≡◌, ◌++◌, drop, each_at, each_from}
use Rattle.fb_check.proofs.lemmas.networks.Valued.{kind_wrong_parameter}
use Rattle.fb_check.proofs.networks.parameters.push_parameters.Given as goal

abbrev pub invariant-loop-parameter : goal.invariant-loop-parameter
invariant-loop-parameter l =
    l.found.items ++ each_from (kind_wrong_parameter l.library l.site l.instance l.declared) l.parameter (drop l.parameter l.parameters)
    ≡ l.fn.found.items ++ each_at (kind_wrong_parameter l.library l.site l.instance l.declared) l.parameters
