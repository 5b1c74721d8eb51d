use Rattle.std.proofs.Common.{◌≡◌, ◌++◌, drop}
use Rattle.std.specs.List.{flat_map}
use Rattle.fb_draw.specs.Charts as spec
use Rattle.fb_draw.proofs.chart.put_actions.Given as goal

-- with what the rest adds, all is there
abbrev pub invariant-loop-action : goal.invariant-loop-action
invariant-loop-action l = l.text.items ++ flat_map spec.action_text (drop l.action-index l.actions) ≡ l.fn.text.items ++ flat_map spec.action_text l.actions
