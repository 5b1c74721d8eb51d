use Rattle.std.proofs.Common.{◌≡◌, ◌++◌, map, take}
use Rattle.fb_ecc.specs.Opened.{slot_of}
use Rattle.fb_ecc.proofs.state.add_all.Given as goal

abbrev pub invariant-loop-variable : goal.invariant-loop-variable
invariant-loop-variable l = l.slots ≡ l.initial.slots ++ map slot_of (take l.variable-index l.variables)
