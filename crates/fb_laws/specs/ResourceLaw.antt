-- The law of one resource (this project's profile).
use Rattle.std.specs.Prelude.{◌≡◌, ◌⊎◌, ◌<◌, ◌+◌, ℕ, nat_lt, if◌then◌else◌, Some, List}
use Rattle.fb_types.specs.Headline.{Inputs, system_of, stimuli_of}
use Rattle.fb_types.specs.Systems.{System}
use Rattle.fb_types.specs.Keys.{Precedes, found}
use Rattle.fb_types.specs.States.{Event, Line}
use Rattle.fb_types.specs.Simulation.{Stimulus, Taken, IsSimulation, lines_of, AtStop, ending_of}
use Rattle.fb_types.specs.Machines.{Item, Local, Each, Run, end, lines_of as lines_of_items}
use Rattle.fb_types.specs.Parts.{machine, count_of}
use Rattle.fb_types.specs.Histories.{HasHistory, history, taken, alone, IsSameAt, IsNotBefore}
use Rattle.fb_types.specs.Merges.{IsMerge, lines_before}
use Rattle.fb_types.specs.declared.key.Key.{Key}
use Rattle.fb_types.specs.declared.value.Reason.{Reason}
use Rattle.fb_laws.specs.Sound.{AreGood}

-- A statement about every simulation of accepted inputs.
abbrev pub OfEach : ((sys : System) → List Stimulus → (horizon limit : ℕ) → List Taken → Type 0) → Type 0
OfEach P =
    (i : Inputs) (horizon limit : ℕ) (ts : List Taken) → AreGood i → IsSimulation (system_of i) (stimuli_of i) horizon limit ts
    → P (system_of i) (stimuli_of i) horizon limit ts

-- ---- A resource alone reaches its history

-- What the simulation takes of the resource below the tick is all that the resource alone takes below it, with the messages that arrive for it; and this leaves the history.
pub record LeavesHistory (sys : System) (stimuli : List Stimulus) (limit : ℕ) (ts : List Taken) (r t : ℕ) : Type 0 where
  pub run : Run (machine sys limit) r (alone sys stimuli limit ts r t) t (taken sys limit ts r t)
  pub leaves : IsSameAt (machine sys limit) r (end (machine sys limit) (alone sys stimuli limit ts r t) (taken sys limit ts r t)) (history sys stimuli limit ts r t)

abbrev pub HasHistories : (sys : System) → List Stimulus → (horizon limit : ℕ) → List Taken → Type 0
HasHistories sys stimuli horizon limit ts = (r t : ℕ) → HasHistory (ending_of horizon ts) r t → LeavesHistory sys stimuli limit ts r t

-- What a resource alone takes below a tick is one thing.
abbrev pub OneRun : (sys : System) → List Stimulus → (horizon limit : ℕ) → List Taken → Type 0
OneRun sys stimuli horizon limit ts =
    (l : Local (machine sys limit)) (r t : ℕ) (is js : List (Item (machine sys limit)))
    → Run (machine sys limit) r l t is → Run (machine sys limit) r l t js → is ≡ js

-- ---- Lines

-- The lines of the simulation below a tick are those of the resources, by tick, then resource.
abbrev pub HasLines : (sys : System) → List Stimulus → (horizon limit : ℕ) → List Taken → Type 0
HasLines sys stimuli horizon limit ts =
    (t : ℕ)
    → IsMerge (machine sys limit) (count_of sys) (λ r. lines_of_items (machine sys limit) (taken sys limit ts r t)) (lines_before (machine sys limit) t (lines_of ts))

-- ---- Stops

-- the lines of each resource if the simulation stops: a tick more for the resource of the stop and for those below
abbrev pub lines_to_stop : (sys : System) → (limit : ℕ) → List Taken → (tick resource : ℕ) → ℕ → List Line
lines_to_stop sys limit ts m r s = lines_of_items (machine sys limit) (taken sys limit ts s (if nat_lt r s then m else m + 1))

-- What the resource alone takes below m + 1 is what the simulation takes of it there. The simulation stops at m and the
-- resource exactly if this ends with a reason, for that reason. Its lines are then those of the resource to its stop,
-- with the lower resources' lines below m + 1 and the higher ones' below m.
pub record StopsWithResource (sys : System) (stimuli : List Stimulus) (horizon limit : ℕ) (ts : List Taken) (m r : ℕ) : Type 0 where
  pub run : Run (machine sys limit) r (alone sys stimuli limit ts r (m + 1)) (m + 1) (taken sys limit ts r (m + 1))
  pub there : (reason : Reason) → (end (machine sys limit) (alone sys stimuli limit ts r (m + 1)) (taken sys limit ts r (m + 1))).stop ≡ Some reason
      → ending_of horizon ts ≡ AtStop m r reason
  pub back : (reason : Reason) → ending_of horizon ts ≡ AtStop m r reason
      → (end (machine sys limit) (alone sys stimuli limit ts r (m + 1)) (taken sys limit ts r (m + 1))).stop ≡ Some reason
  pub lines : (reason : Reason) → ending_of horizon ts ≡ AtStop m r reason
      → IsMerge (machine sys limit) (count_of sys) (lines_to_stop sys limit ts m r) (lines_of ts)

abbrev pub HasStops : (sys : System) → List Stimulus → (horizon limit : ℕ) → List Taken → Type 0
HasStops sys stimuli horizon limit ts =
    (m r : ℕ) → m < horizon → IsNotBefore (ending_of horizon ts) m r → StopsWithResource sys stimuli horizon limit ts m r

-- ---- New keys

-- A local event, a timer or a message is put under the key.
abbrev pub Puts : Taken → Key → Event → Type 0
Puts t j e = (t.effect.changes j ≡ Some (Some e)) ⊎ (found j t.effect.sent ≡ Some e)

-- Every new key is greater than the one taken.
abbrev pub PutsLater : Taken → Type 0
PutsLater t = (j : Key) (e : Event) → Puts t j e → Precedes t.key j

abbrev pub HasRisingKeys : (sys : System) → List Stimulus → (horizon limit : ℕ) → List Taken → Type 0
HasRisingKeys sys stimuli horizon limit ts = Each PutsLater ts

-- ---- There is a simulation

-- Accepted inputs have a simulation to each horizon, with each limit on the steps of one tick.
abbrev pub HasSimulation : Type 0
HasSimulation =
    (i : Inputs) (horizon limit : ℕ) → AreGood i → (ts : List Taken) × IsSimulation (system_of i) (stimuli_of i) horizon limit ts
