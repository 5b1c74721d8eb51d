use Rattle.fb_types.proofs.Common.{◌≡◌, drop, list_any}
use Rattle.fb_lint.specs.Charts.{emits_in}
use Rattle.fb_lint.proofs.charts.is_emitted.Given as goal

abbrev pub invariant-loop-state : goal.invariant-loop-state
invariant-loop-state l = list_any (emits_in l.event) l.states ≡ list_any (emits_in l.event) (drop l.state-index l.states)
