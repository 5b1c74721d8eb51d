use Rattle.fb_lint.proofs.lemmas.Common.{◌≡◌, drop, list_any, edges_are}
use Rattle.fb_lint.specs.Circles.{leads_back}
use Rattle.fb_lint.proofs.circles.goes_round.Given as goal

abbrev pub invariant-loop-edge : goal.invariant-loop-edge
invariant-loop-edge l =
    list_any (leads_back (edges_are l.edges) l.state) (edges_are l.edges) ≡ list_any (leads_back (edges_are l.edges) l.state) (edges_are (drop l.edge-index l.edges))
