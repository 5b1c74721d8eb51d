use Rattle.fb_types.proofs.Common.{◌≡◌, ◌<◌, ℕ, [], true, slice_index_or, system_of}
use Rattle.fb_wave.specs.Named.{is_name, is_named_at}
use Rattle.fb_wave.proofs.names.has_names.Given as goal

abbrev pub invariant-loop-resource : goal.invariant-loop-resource
invariant-loop-resource l = (k : ℕ) → k < l.resource → is_name (slice_index_or (system_of l.system).resource_names k []) ≡ true

abbrev pub invariant-loop-index : goal.invariant-loop-index
invariant-loop-index l = (k : ℕ) → k < l.index → is_named_at (system_of l.system) k ≡ true
