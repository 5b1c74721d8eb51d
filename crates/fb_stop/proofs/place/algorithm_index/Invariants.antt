use Rattle.fb_types.proofs.Common.{◌≡◌, ◌<◌, ℕ, false, Some, slice_get, same_name}
use Rattle.fb_types.specs.declared.library.Algorithm.{Algorithm}
use Rattle.fb_stop.proofs.place.algorithm_index.Given as goal

-- none so far has the name
abbrev pub invariant-loop-index : goal.invariant-loop-index
invariant-loop-index l = (j : ℕ) (a : Algorithm) → j < l.index → slice_get l.block.algorithms j ≡ Some a → same_name l.name a.name ≡ false
