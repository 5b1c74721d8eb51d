use Rattle.fb_types.proofs.Common.{◌≡◌, ◌<◌, ℕ, system_of, path_at, path_text}
use Rattle.fb_inspect.proofs.refused.fault_names.instance_of.Given as goal

abbrev pub invariant-loop-instance : goal.invariant-loop-instance
invariant-loop-instance l = (i : ℕ) → i < l.instance → l.path ≡ path_text (path_at (system_of l.system) i) → ⊥
