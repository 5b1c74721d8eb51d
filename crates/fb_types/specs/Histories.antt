-- The history of one resource in the one-thread simulation, and what the resource does alone (this project's profile).
use Rattle.std.specs.Prelude.{◌≡◌, ℕ, ◌+◌, ◌<◌, ◌≤◌, ◌⊎◌, ◌==◌, nat_lt, if◌then◌else◌, Option, None, List, [], ◌∷◌}
use Rattle.fb_types.specs.Keys.{found, or_else}
use Rattle.fb_types.specs.Systems.{System}
use Rattle.fb_types.specs.Simulation.{Stimulus, Taken, opening, last, Ending, AtHorizon, AtStop}
use Rattle.fb_types.specs.Machines.{Machine, Item, Local, sent_by, cut, at}
use Rattle.fb_types.specs.Parts.{machine, local_of, items_of}
use Rattle.fb_types.specs.declared.key.Key.{Key}
use Rattle.fb_types.specs.declared.value.Reason.{Reason}

-- ---- Where there is a history

-- Up to which tick the simulation has taken a resource whole if it stops: a tick more for the resources below that of the
-- stop.
abbrev pub history_to : (stop_tick stop_resource resource : ℕ) → ℕ
history_to m s r = if nat_lt r s then m + 1 else m

-- A resource has a history for a tick that is at most the horizon and, if the simulation stops, not past what it has
-- taken whole.
abbrev pub HasHistory : Ending → (resource tick : ℕ) → Type 0
HasHistory (AtHorizon h) r t = t ≤ h
HasHistory (AtStop m s reason) r t = t ≤ history_to m s r

-- ---- The history

-- the takings of keys below a tick
abbrev pub takings_below : ℕ → List Taken → List Taken
takings_below t [] = []
takings_below t (x ∷ xs) = if nat_lt x.key.tick t then x ∷ takings_below t xs else []

-- the reason for which a resource stopped in the takings
abbrev pub stop_of : (resource : ℕ) → List Taken → Option Reason
stop_of r [] = None
stop_of r (x ∷ xs) = or_else (stop_of r xs) (if x.key.resource == r then x.effect.stop else None)

-- the state of a resource after the last taking of a key below a tick
abbrev pub history : (sys : System) → List Stimulus → (limit : ℕ) → List Taken → (resource tick : ℕ) → Local (machine sys limit)
history sys stimuli limit ts r t =
    local_of sys limit r (last (opening sys stimuli) (takings_below t ts)) (stop_of r (takings_below t ts))

-- what the simulation takes of a resource below a tick
abbrev pub taken : (sys : System) → (limit : ℕ) → List Taken → (resource tick : ℕ) → List (Item (machine sys limit))
taken sys limit ts r t = at (machine sys limit) r (cut (machine sys limit) t (items_of sys limit ts))

-- ---- The resource alone

-- Its part of the opening, with the messages of the simulation that arrive below a tick put under their keys.
abbrev pub alone : (sys : System) → List Stimulus → (limit : ℕ) → List Taken → (resource tick : ℕ) → Local (machine sys limit)
alone sys stimuli limit ts r t =
    record (local_of sys limit r (opening sys stimuli) None) {
      inbox = λ k. if nat_lt k.tick t then found k (sent_by (machine sys limit) (items_of sys limit ts)) else None;
    }

-- The same part, the same stimuli, timers and local events, and the same reason to have stopped. The messages that wait are no part of a history.
pub record IsSameAt (M : Machine) (r : ℕ) (l m : Local M) : Type 0 where
  pub part : l.part ≡ m.part
  pub own : (k : Key) → k.resource ≡ r → l.own k ≡ m.own k
  pub stop : l.stop ≡ m.stop

-- ---- Stops

-- The simulation does not stop at a lesser tick and resource.
abbrev pub IsNotBefore : Ending → (tick resource : ℕ) → Type 0
IsNotBefore (AtHorizon h) m r = m < h
IsNotBefore (AtStop n s reason) m r = (m < n) ⊎ ((m ≡ n) × (r ≤ s))
