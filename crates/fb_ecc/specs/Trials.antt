-- Transitions and events by their indexes (IEC 61499-1, 5.2; that they are distinguished by indexes is this project's profile).
use Rattle.std.specs.Prelude.{◌≡◌, ℕ, List, [], map, unwrap_or, slice_get, nat_eq, Option, Some, None, Bool, true, false}
use Rattle.fb_types.specs.declared.library.BasicType.{BasicType}
use Rattle.fb_types.specs.declared.library.Transition.{Transition}
use Rattle.fb_ecc.specs.Numbered.{exit_of}
use Rattle.fb_ecc.specs.declared.chart.Exit.{Exit}

abbrev pub nowhere : Transition
nowhere = record { from = []; to = []; condition = record { event = None; guard = None } }

-- the transition at an index of the text
abbrev pub transition_at : BasicType → ℕ → Transition
transition_at t k = unwrap_or (slice_get t.transitions k) nowhere

abbrev pub transitions_at : BasicType → List Exit → List Transition
transitions_at t = map (λ e. transition_at t e.transition)

-- The exit is a transition of the type.
abbrev pub IsExit : BasicType → Exit → Type 0
IsExit t e = (x : Transition) × (slice_get t.transitions e.transition ≡ Some x) × (e ≡ exit_of t e.transition x)

-- whether the event at an index is the one that is present
abbrev pub is_number_present : Option ℕ → Option ℕ → Bool
is_number_present None present = true
is_number_present (Some e) None = false
is_number_present (Some e) (Some f) = nat_eq e f
