use Rattle.fb_types.proofs.Common.{◌≡◌, drop, list_any}
use Rattle.fb_lint.specs.Charts.{runs}
use Rattle.fb_lint.proofs.charts.runs.Given as goal

abbrev pub invariant-loop-action : goal.invariant-loop-action
invariant-loop-action l = list_any (runs l.algorithm) l.actions ≡ list_any (runs l.algorithm) (drop l.action-index l.actions)
