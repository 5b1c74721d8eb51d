use Rattle.fb_types.proofs.Common.{◌≡◌, drop, list_any}
use Rattle.fb_lint.specs.Charts.{leaves}
use Rattle.fb_lint.proofs.charts.is_left.Given as goal

abbrev pub invariant-loop-transition : goal.invariant-loop-transition
invariant-loop-transition l = list_any (leaves l.state) l.transitions ≡ list_any (leaves l.state) (drop l.transition-index l.transitions)
