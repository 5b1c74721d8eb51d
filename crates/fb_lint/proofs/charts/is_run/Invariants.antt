use Rattle.fb_types.proofs.Common.{◌≡◌, drop, list_any}
use Rattle.fb_lint.specs.Charts.{runs_in}
use Rattle.fb_lint.proofs.charts.is_run.Given as goal

abbrev pub invariant-loop-state : goal.invariant-loop-state
invariant-loop-state l = list_any (runs_in l.algorithm) l.states ≡ list_any (runs_in l.algorithm) (drop l.state-index l.states)
