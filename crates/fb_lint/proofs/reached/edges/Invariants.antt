use Rattle.std.proofs.Common.{◌≡◌, take, map}
use Rattle.fb_lint.specs.Reached.{edge_of, edges_are}
use Rattle.fb_lint.proofs.reached.edges.Given as goal

abbrev pub invariant-loop-transition : goal.invariant-loop-transition
invariant-loop-transition l = edges_are l.edges.items ≡ map edge_of (take l.transition-index l.transitions)
