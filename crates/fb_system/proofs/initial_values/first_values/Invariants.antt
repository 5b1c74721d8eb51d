use Rattle.fb_types.proofs.Common.{◌≡◌, map, take, initial_of}
use Rattle.fb_system.proofs.initial_values.first_values.Given as goal

abbrev pub invariant-loop-variable : goal.invariant-loop-variable
invariant-loop-variable l = l.values.items ≡ map initial_of (take l.variable-index l.variables)
