use Rattle.std.proofs.Common.{◌≡◌, ◌++◌, map, take}
use Rattle.fb_stop.specs.Sites.{slot_in}
use Rattle.fb_stop.proofs.before.add_all.Given as goal

abbrev pub invariant-loop-variable : goal.invariant-loop-variable
invariant-loop-variable l = l.slots ≡ l.initial.slots ++ map (slot_in l.frame) (take l.variable-index l.variables)
