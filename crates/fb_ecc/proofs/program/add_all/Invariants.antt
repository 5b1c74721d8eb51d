use Rattle.std.proofs.Common.{◌≡◌, ◌++◌, map, take}
use Rattle.fb_ecc.specs.Sound.{declared_as}
use Rattle.fb_ecc.proofs.program.add_all.Given as goal

abbrev pub invariant-loop-variable : goal.invariant-loop-variable
invariant-loop-variable l = l.slots.items ≡ l.initial.slots.items ++ map declared_as (take l.variable-index l.variables)
