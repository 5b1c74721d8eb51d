use Rattle.fb_types.proofs.Common.{◌≡◌, ◌<◌, ℕ, [], slice_index_or, system_of}
use Rattle.fb_wave.proofs.last.resource_of.Given as goal

abbrev pub invariant-loop-resource : goal.invariant-loop-resource
invariant-loop-resource l = (r : ℕ) → r < l.resource → l.name ≡ slice_index_or (system_of l.system).resource_names r [] → ⊥
