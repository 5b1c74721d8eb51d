use Rattle.fb_types.proofs.Common.{◌≡◌, drop, list_any}
use Rattle.fb_lint.specs.Charts.{shadows}
use Rattle.fb_lint.proofs.charts.is_shadowed.Given as goal

abbrev pub invariant-loop-entry : goal.invariant-loop-entry
invariant-loop-entry l = list_any (shadows l.later) l.earlier ≡ list_any (shadows l.later) (drop l.entry-index l.earlier)
