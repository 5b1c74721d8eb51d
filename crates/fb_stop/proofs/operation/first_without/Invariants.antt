use Rattle.fb_types.proofs.Common.{◌≡◌, ◌<◌, ℕ, Some, slice_get}
use Rattle.fb_types.specs.declared.text.Expr.{Expr}
use Rattle.fb_st.specs.Frames.{values_of}
use Rattle.fb_stop.specs.Operations.{HasValue}
use Rattle.fb_stop.proofs.operation.first_without.Given as goal

-- those before have values
abbrev pub invariant-loop-index : goal.invariant-loop-index
invariant-loop-index l = (k : ℕ) → k < l.index → (e : Expr) → slice_get l.arguments k ≡ Some e → HasValue (values_of l.frame) e
