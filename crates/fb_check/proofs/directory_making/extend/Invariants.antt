use Rattle.std.proofs.Common.{take}
use Rattle.fb_check.specs.Directory.{IsExtended}
use Rattle.fb_check.proofs.directory_making.extend.Given as goal

abbrev pub invariant-loop-variable : goal.invariant-loop-variable
invariant-loop-variable l = IsExtended l.event (take l.variable-index l.variables) l.initial.withs l.withs
