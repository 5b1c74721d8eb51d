use Rattle.fb_lint.proofs.lemmas.Common.{◌≡◌, ◌++◌, drop, names_are, edges_are}
use Rattle.fb_lint.proofs.lemmas.ReachedStates.{ends, leaving, staying}
use Rattle.fb_lint.proofs.reached.follow.Given as goal

-- with what the rest adds, all is there
abbrev pub invariant-loop-edge : goal.invariant-loop-edge
invariant-loop-edge l =
    record {
      others : edges_are l.others.items ++ staying l.state (edges_are (drop l.edge-index l.edges)) ≡ staying l.state (edges_are l.edges);
      todo : names_are l.todo.items ++ ends (leaving l.state (edges_are (drop l.edge-index l.edges))) ≡ names_are l.fn.todo.items ++ ends (leaving l.state (edges_are l.edges));
    }
