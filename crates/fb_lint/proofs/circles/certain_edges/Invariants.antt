use Rattle.fb_lint.proofs.lemmas.Common.{◌≡◌, ◌++◌, drop, each_from, edges_are}
use Rattle.fb_lint.specs.Circles.{certain_edge, certain_edges}
use Rattle.fb_lint.proofs.circles.certain_edges.Given as goal

-- with the edges of the rest, all are there
abbrev pub invariant-loop-index : goal.invariant-loop-index
invariant-loop-index l =
    edges_are l.edges.items ++ each_from (certain_edge l.transitions) l.index (drop l.index l.transitions) ≡ certain_edges l.transitions
