use Rattle.fb_check.proofs.lemmas.Common.{◌≡◌, ◌++◌, drop, among, Name, names_of_kind, each_at, each_from, unless}
use Rattle.fb_check_names.specs.declared.location.UnknownName.TheVariants as location
use Rattle.fb_check.proofs.types.charts.push_variables.Given as goal

abbrev pub invariant-loop-variable : goal.invariant-loop-variable
invariant-loop-variable l =
    l.found.items ++ each_from (λ v (n : Name). unless (among (names_of_kind l.port_kind l.interface.ports) n) (location.With l.block l.direction l.event v)) l.variable (drop l.variable l.names) ≡ l.fn.found.items ++ each_at (λ v (n : Name). unless (among (names_of_kind l.port_kind l.interface.ports) n) (location.With l.block l.direction l.event v)) l.names
