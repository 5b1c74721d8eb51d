use Rattle.fb_types.proofs.Common.{◌≡◌, ◌<◌, ℕ, false, get_or, same_name}
use Rattle.fb_types.specs.declared.library.Algorithm.{Algorithm}
use Rattle.fb_inspect.proofs.walk.charts.algorithm_number.Given as goal

-- None of the first ones has the name.
abbrev pub invariant-loop-index : goal.invariant-loop-index
invariant-loop-index l = (d : Algorithm) (k : ℕ) → k < l.index → same_name (get_or l.block.algorithms k d).name l.algorithm ≡ false
