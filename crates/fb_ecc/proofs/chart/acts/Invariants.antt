use Rattle.std.proofs.Common.{◌≡◌, map, take}
use Rattle.fb_ecc.specs.Numbered.{act_of}
use Rattle.fb_ecc.proofs.chart.acts.Given as goal

abbrev pub invariant-loop-action : goal.invariant-loop-action
invariant-loop-action l = l.acts ≡ map (act_of l.block) (take l.action-index l.actions)
