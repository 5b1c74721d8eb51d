use Rattle.fb_types.proofs.Common.{◌≡◌, drop, list_any}
use Rattle.fb_lint.specs.Constants.{is_narrow}
use Rattle.fb_lint.proofs.constants.has_narrow.Given as goal

abbrev pub invariant-loop-variable : goal.invariant-loop-variable
invariant-loop-variable l = list_any (is_narrow l.name l.number) l.variables ≡ list_any (is_narrow l.name l.number) (drop l.variable-index l.variables)
