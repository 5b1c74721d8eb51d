use Rattle.std.proofs.Common.{take}
use Rattle.fb_check.specs.Directory.{AreVariables}
use Rattle.fb_check.proofs.directory_making.variables_of.Given as goal

abbrev pub invariant-loop-index : goal.invariant-loop-index
invariant-loop-index l = AreVariables (take l.index l.variables) l.inputs
