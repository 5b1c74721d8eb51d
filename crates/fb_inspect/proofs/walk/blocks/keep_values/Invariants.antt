use Rattle.fb_inspect.proofs.lemmas.Common.{◌≡◌, map, take, values_of}
use Rattle.fb_inspect.proofs.walk.blocks.keep_values.Given as goal

abbrev pub invariant-loop-variable : goal.invariant-loop-variable
invariant-loop-variable l = l.before.items ≡ map (values_of l.frame) (take l.variable-index l.variables)
