use Rattle.fb_types.proofs.Common.{◌≡◌, ◌++◌, take, variable_names}
use Rattle.fb_inspect.proofs.walk.blocks.add_own.Given as goal

abbrev pub invariant-loop-index : goal.invariant-loop-index
invariant-loop-index l = l.own.items ≡ l.fn.own.items ++ variable_names (take l.index l.variables)
