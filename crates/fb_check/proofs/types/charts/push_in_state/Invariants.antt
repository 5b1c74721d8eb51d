use Rattle.fb_check.proofs.lemmas.Common.{◌≡◌, ◌++◌, drop, unknown_in_action, each_at, each_from}
use Rattle.fb_check.proofs.types.charts.push_in_state.Given as goal

abbrev pub invariant-loop-action : goal.invariant-loop-action
invariant-loop-action l =
    l.found.items ++ each_from (unknown_in_action l.scope l.block l.state) l.action (drop l.action l.actions) ≡ l.fn.found.items ++ each_at (unknown_in_action l.scope l.block l.state) l.actions
