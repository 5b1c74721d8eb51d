use Rattle.fb_types.proofs.Common.{◌≡◌, drop, list_any}
use Rattle.fb_lint.specs.Interfaces.{is_input_joined}
use Rattle.fb_lint.proofs.interfaces.has_joined.Given as goal

abbrev pub invariant-loop-variable : goal.invariant-loop-variable
invariant-loop-variable l = list_any (is_input_joined l.connections) l.variables ≡ list_any (is_input_joined l.connections) (drop l.variable-index l.variables)
