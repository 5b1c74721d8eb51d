use Rattle.fb_types.proofs.Common.{◌≡◌, ◌<◌, ℕ, system_of, path_at, path_text}
use Rattle.fb_session.proofs.show.instance_at.Given as goal

-- no instance before it has the path
abbrev pub invariant-loop-instance : goal.invariant-loop-instance
invariant-loop-instance l = (k : ℕ) → k < l.instance → path_text (path_at (system_of l.system) k) ≡ l.path → ⊥
