use Rattle.fb_types.proofs.Common.{◌≡◌, ◌<◌, ℕ, event_at}
use Rattle.fb_inspect.proofs.refused.fault_names.event_of.Given as goal

abbrev pub invariant-loop-event : goal.invariant-loop-event
invariant-loop-event l = (e : ℕ) → e < l.event → l.name ≡ event_at l.events e → ⊥
