use Rattle.fb_types.proofs.Common.{◌≡◌, drop, list_any}
use Rattle.fb_lint.specs.Charts.{emits}
use Rattle.fb_lint.proofs.charts.emits.Given as goal

abbrev pub invariant-loop-action : goal.invariant-loop-action
invariant-loop-action l = list_any (emits l.event) l.actions ≡ list_any (emits l.event) (drop l.action-index l.actions)
