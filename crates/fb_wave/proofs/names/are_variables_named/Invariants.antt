use Rattle.fb_wave.proofs.lemmas.Common.{◌≡◌, drop, list_all, Variable, is_name}
use Rattle.fb_wave.proofs.names.are_variables_named.Given as goal

abbrev pub invariant-loop-variable : goal.invariant-loop-variable
invariant-loop-variable l = list_all (λ (v : Variable). is_name v.name) l.variables ≡ list_all (λ (v : Variable). is_name v.name) (drop l.variable-index l.variables)
