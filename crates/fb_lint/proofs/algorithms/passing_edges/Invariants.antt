use Rattle.fb_types.proofs.Common.{◌≡◌, ◌++◌, drop, map, filter}
use Rattle.fb_lint.specs.Reached.{edge_of, edges_are}
use Rattle.fb_lint.specs.Reads.{passes_by}
use Rattle.fb_lint.proofs.algorithms.passing_edges.Given as goal

-- with the edges of the rest, all are there
abbrev pub invariant-loop-transition : goal.invariant-loop-transition
invariant-loop-transition l =
    edges_are l.edges.items ++ map edge_of (filter (passes_by l.chart.events.now l.variable) (drop l.transition-index l.transitions))
    ≡ map edge_of (filter (passes_by l.chart.events.now l.variable) l.transitions)
