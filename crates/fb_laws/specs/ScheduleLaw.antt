-- The law of schedules (this project's profile).
use Rattle.std.specs.Prelude.{◌≡◌, ℕ, ◌+◌, ◌<◌, ◌⊎◌, Bool, false, ◌||◌, nat_lt, if◌then◌else◌, None, List, [], ◌∷◌, ◌++◌}
use Rattle.fb_types.specs.Keys.{same_key, found, or_else}
use Rattle.fb_types.specs.Systems.{System}
use Rattle.fb_types.specs.States.{Line}
use Rattle.fb_types.specs.Headline.{Inputs, system_of, stimuli_of}
use Rattle.fb_types.specs.Simulation.{Stimulus, Taken, IsSimulation, lines_of, AtHorizon, AtStop, ending_of}
use Rattle.fb_types.specs.Machines.{Machine, Item, Each, sent_by, lines_of as lines_of_items}
use Rattle.fb_types.specs.Parts.{machine, count_of}
use Rattle.fb_types.specs.Histories.{HasHistory, history, taken, IsSameAt}
use Rattle.fb_types.specs.Merges.{IsMerge, lines_before}
use Rattle.fb_types.specs.Cores.{Core, CoreStep, IsFloor, opening_core}
use Rattle.fb_types.specs.Schedules.{IsSchedule, core_after, taken_after, IsAtHorizon, IsLeastStop, IsFinal}
use Rattle.fb_types.specs.declared.key.Key.{Key}
use Rattle.fb_types.specs.declared.value.Reason.{Reason}
use Rattle.fb_laws.specs.Sound.{AreGood}

module _ (M : Machine) where
  -- whether a key was taken
  abbrev pub has_key : Key → List (Item M) → Bool
  has_key k [] = false
  has_key k (i ∷ is) = same_key i.key k || has_key k is

-- A statement about every schedule of accepted inputs: about the core that it leads to, and what each resource has taken.
abbrev pub OfEachSchedule : ((sys : System) → List Stimulus → (horizon limit : ℕ) → Core (machine sys limit) → (ℕ → List (Item (machine sys limit))) → Type 0) → Type 0
OfEachSchedule P =
    (i : Inputs) (horizon limit : ℕ) (es : List (CoreStep (machine (system_of i) limit))) → AreGood i
    → IsSchedule (machine (system_of i) limit) horizon (opening_core (system_of i) (stimuli_of i) limit) es
    → P (system_of i) (stimuli_of i) horizon limit
    (core_after (machine (system_of i) limit) (opening_core (system_of i) (stimuli_of i) limit) es)
    (taken_after (machine (system_of i) limit) (λ r. []) es)

-- ---- States and messages

-- A resource that has not stopped is at its history for its clock, and it has taken what the simulation takes of it below.
pub record IsAtHistory (sys : System) (stimuli : List Stimulus) (limit : ℕ) (ts : List Taken) (c : Core (machine sys limit)) (runs : ℕ → List (Item (machine sys limit))) (r : ℕ) : Type 0 where
  pub state : IsSameAt (machine sys limit) r (c r).state (history sys stimuli limit ts r (c r).clock)
  pub takings : runs r ≡ taken sys limit ts r (c r).clock
  pub lines : (c r).lines ≡ lines_of_items (machine sys limit) (taken sys limit ts r (c r).clock)

abbrev pub HasStates : (sys : System) → List Stimulus → (horizon limit : ℕ) → Core (machine sys limit) → (ℕ → List (Item (machine sys limit))) → Type 0
HasStates sys stimuli horizon limit c runs =
    (ts : List Taken) → IsSimulation sys stimuli horizon limit ts
    → (r : ℕ) → (c r).state.stop ≡ None → HasHistory (ending_of horizon ts) r (c r).clock → IsAtHistory sys stimuli limit ts c runs r

-- A message that was sent and not taken is in its sender's outbox or on its receiver's agenda, and nothing else arrives.
abbrev pub HasMessages : (sys : System) → List Stimulus → (horizon limit : ℕ) → Core (machine sys limit) → (ℕ → List (Item (machine sys limit))) → Type 0
HasMessages sys stimuli horizon limit c runs =
    (k : Key)
    → or_else (found k (c (sys.sender k.a)).outbox) ((c k.resource).state.inbox k)
    ≡ (if has_key (machine sys limit) k (runs k.resource) then None else found k (sent_by (machine sys limit) (runs (sys.sender k.a))))

-- ---- The end of a complete schedule

-- At the horizon there is a simulation, each ends there, and its lines are those of the resources by tick, then resource.
pub record EndsThere (sys : System) (stimuli : List Stimulus) (horizon limit : ℕ) (c : Core (machine sys limit)) : Type 0 where
  pub there : (ts : List Taken) × IsSimulation sys stimuli horizon limit ts
  pub ending : (ts : List Taken) → IsSimulation sys stimuli horizon limit ts → ending_of horizon ts ≡ AtHorizon horizon
  pub lines : (ts : List Taken) → IsSimulation sys stimuli horizon limit ts → IsMerge (machine sys limit) (count_of sys) (λ r. (c r).lines) (lines_of ts)

abbrev pub HasEnd : (sys : System) → List Stimulus → (horizon limit : ℕ) → Core (machine sys limit) → (ℕ → List (Item (machine sys limit))) → Type 0
HasEnd sys stimuli horizon limit c runs = IsAtHorizon (machine sys limit) (count_of sys) horizon c → EndsThere sys stimuli horizon limit c

-- the lines of each resource to a tick and resource: those at the tick itself for this resource and the lower ones
abbrev pub lines_to : (sys : System) (limit tick resource : ℕ) → Core (machine sys limit) → ℕ → List Line
lines_to sys limit t r c s = lines_before (machine sys limit) (if nat_lt r s then t else t + 1) (c s).lines

-- At the least stop there is a simulation, each stops there for that reason, and its lines are those of the resources cut after the stop, by tick, then resource.
pub record StopsThere (sys : System) (stimuli : List Stimulus) (horizon limit : ℕ) (c : Core (machine sys limit)) (s : ℕ) (reason : Reason) : Type 0 where
  pub there : (ts : List Taken) × IsSimulation sys stimuli horizon limit ts
  pub ending : (ts : List Taken) → IsSimulation sys stimuli horizon limit ts → ending_of horizon ts ≡ AtStop (c s).clock s reason
  pub lines : (ts : List Taken) → IsSimulation sys stimuli horizon limit ts → IsMerge (machine sys limit) (count_of sys) (lines_to sys limit (c s).clock s c) (lines_of ts)

abbrev pub HasStop : (sys : System) → List Stimulus → (horizon limit : ℕ) → Core (machine sys limit) → (ℕ → List (Item (machine sys limit))) → Type 0
HasStop sys stimuli horizon limit c runs =
    (s : ℕ) (reason : Reason) → IsLeastStop (machine sys limit) (count_of sys) c s reason → StopsThere sys stimuli horizon limit c s reason

-- ---- Final lines

-- a line past a tick and resource
abbrev pub IsPast : (tick resource : ℕ) → Line → Type 0
IsPast t r l = (t < l.key.tick) ⊎ ((t ≡ l.key.tick) × (r < l.key.resource))

-- The lines of the core to a final tick and resource, by tick, then resource, are what the lines of the simulation begin with.
pub record IsBeginning (sys : System) (limit : ℕ) (ts : List Taken) (c : Core (machine sys limit)) (t r : ℕ) : Type 0 where
  pub front : List Line
  pub rest : List Line
  pub split : lines_of ts ≡ front ++ rest
  pub merged : IsMerge (machine sys limit) (count_of sys) (lines_to sys limit t r c) front
  pub past : Each (IsPast t r) rest

abbrev pub HasFinalLines : (sys : System) → List Stimulus → (horizon limit : ℕ) → Core (machine sys limit) → (ℕ → List (Item (machine sys limit))) → Type 0
HasFinalLines sys stimuli horizon limit c runs =
    (ts : List Taken) → IsSimulation sys stimuli horizon limit ts
    → (m t r : ℕ) → IsFloor (machine sys limit) c m → r < count_of sys → t < horizon → IsFinal (machine sys limit) (count_of sys) c m t r
    → IsBeginning sys limit ts c t r
