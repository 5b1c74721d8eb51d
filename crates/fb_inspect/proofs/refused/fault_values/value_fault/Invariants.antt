use Rattle.fb_types.proofs.Common.{List}
use Rattle.fb_types.specs.declared.value.Value.{Value}
use Rattle.fb_wave.proofs.lemmas.Valued.{AreSoFar}
use Rattle.fb_inspect.proofs.refused.fault_values.value_fault.Given as goal

abbrev pub invariant-loop-number : goal.invariant-loop-number
invariant-loop-number l = (values : List Value) × AreSoFar l.variables l.indexes l.text l.number values l.rest
