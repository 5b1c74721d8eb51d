use Rattle.fb_lint.proofs.lemmas.Common.{◌≡◌, ◌++◌, drop, each_from, names_are}
use Rattle.fb_lint.specs.Reached as spec
use Rattle.fb_lint.proofs.reached.push_unlisted.Given as goal

-- with what is found in the rest, all is there
abbrev pub invariant-loop-state : goal.invariant-loop-state
invariant-loop-state l =
    l.all.items ++ each_from (spec.unlisted_state l.block (names_are l.names)) l.state (drop l.state l.states) ≡ l.fn.all.items ++ each_from (spec.unlisted_state l.block (names_are l.names)) 0 l.states
