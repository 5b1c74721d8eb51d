use Rattle.fb_types.proofs.Common.{◌≡◌, ◌<◌, ℕ, system_of, path_at, path_text}
use Rattle.fbsim_command.proofs.known.instance_at.Given as goal

abbrev pub invariant-loop-instance : goal.invariant-loop-instance
invariant-loop-instance l = (i : ℕ) → i < l.instance → l.path ≡ path_text (path_at (system_of l.system) i) → ⊥
