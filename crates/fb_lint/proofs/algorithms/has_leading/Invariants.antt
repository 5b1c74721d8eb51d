use Rattle.fb_types.proofs.Common.{◌≡◌, drop, list_any}
use Rattle.fb_lint.specs.Reads.{chart_of, leads_unsampled}
use Rattle.fb_lint.proofs.algorithms.has_leading.Given as goal

abbrev pub invariant-loop-transition : goal.invariant-loop-transition
invariant-loop-transition l = list_any (leads_unsampled (chart_of l.chart) l.algorithm l.variable) l.transitions ≡ list_any (leads_unsampled (chart_of l.chart) l.algorithm l.variable) (drop l.transition-index l.transitions)
