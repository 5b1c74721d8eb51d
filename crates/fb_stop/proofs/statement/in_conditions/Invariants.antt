use Rattle.fb_types.proofs.Common.{◌≡◌, ◌<◌, ℕ, Some, slice_get}
use Rattle.fb_types.specs.declared.text.Choice.{Choice, out-Choice}
use Rattle.fb_st.specs.Frames.{values_of}
use Rattle.fb_stop.specs.Operations.{IsOtherwise}
use Rattle.fb_stop.proofs.statement.in_conditions.Given as goal

-- no condition before is at fault
abbrev pub invariant-loop-index : goal.invariant-loop-index
invariant-loop-index l = (k : ℕ) → k < l.index → (c : Choice) → slice_get l.choices k ≡ Some c → IsOtherwise (values_of l.frame) l.reason (out-Choice c).condition
