use Rattle.fb_lint.proofs.lemmas.Common.{◌≡◌, drop, list_any, meant_all}
use Rattle.fb_lint.specs.Events.{is_own}
use Rattle.fb_lint.proofs.events.has_own.Given as goal

abbrev pub invariant-loop-variable : goal.invariant-loop-variable
invariant-loop-variable l = list_any (is_own l.events (meant_all l.mentions) l.event) l.variables ≡ list_any (is_own l.events (meant_all l.mentions) l.event) (drop l.variable-index l.variables)
