use Rattle.fb_check.proofs.lemmas.Common.{◌≡◌, ◌++◌, drop, kind_wrong_initial, each_at, each_from}
use Rattle.fb_check.proofs.types.kinds_wrong.push_variables.Given as goal

abbrev pub invariant-loop-variable : goal.invariant-loop-variable
invariant-loop-variable l =
    l.found.items ++ each_from (kind_wrong_initial l.block l.list) l.variable (drop l.variable l.variables) ≡ l.fn.found.items ++ each_at (kind_wrong_initial l.block l.list) l.variables
