use Rattle.fb_lint.proofs.lemmas.Common.{◌+◌, length, names_are, edges_are}
use Rattle.std.proofs.Common.{◌*◌}
use Rattle.fb_lint.proofs.lemmas.ReachedStates.{Reaching}
use Rattle.fb_lint.proofs.reached.reached_by.Given as goal

abbrev pub invariant-loop-state : goal.invariant-loop-state
invariant-loop-state l =
    Reaching (edges_are l.fn.edges.items) l.fn.initial (edges_are l.rest.items) (names_are l.todo.items) (names_are l.reached.items)

-- each edge is followed once, and each name is taken once
abbrev pub decreases-loop-state : goal.decreases-loop-state
decreases-loop-state l = 2 * length (edges_are l.rest.items) + length (names_are l.todo.items)
