use Rattle.std.proofs.Common.{◌≡◌, ◌<◌, ℕ, get_or}
use Rattle.fb_wave.specs.Reading.{name_at}
use Rattle.fb_inspect.proofs.refused.fault_values.is_known.Given as goal

abbrev pub invariant-loop-index : goal.invariant-loop-index
invariant-loop-index l = (i d : ℕ) → i < l.index-index → name_at l.variables (get_or l.indexes i d) ≡ l.name → ⊥
