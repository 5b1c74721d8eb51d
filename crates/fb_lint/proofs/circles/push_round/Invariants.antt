use Rattle.fb_lint.proofs.lemmas.Common.{◌≡◌, ◌++◌, drop, each_from, edges_are}
use Rattle.fb_lint.specs.Circles as spec
use Rattle.fb_lint.proofs.circles.push_round.Given as goal

-- with what is found in the rest, all is there
abbrev pub invariant-loop-state : goal.invariant-loop-state
invariant-loop-state l =
    l.all.items ++ each_from (spec.endless_state l.block (edges_are l.edges)) l.state (drop l.state l.states) ≡ l.fn.all.items ++ each_from (spec.endless_state l.block (edges_are l.edges)) 0 l.states
