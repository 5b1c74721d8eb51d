-- What waits at the beginning (this project's profile).
use Rattle.std.specs.Prelude.{◌≡◌, ◌<◌, ℕ, List, Bool, true, ◌==◌, if◌then◌else◌, length, take, flat_map, Option, Some, None, slice_get}
use Rattle.fb_types.specs.Headline.{Inputs, system_of, stimuli_of}
use Rattle.fb_types.specs.Keys.{found, or_else, stimulus_key}
use Rattle.fb_types.specs.Parts.{count_of}
use Rattle.fb_types.specs.Simulation.{Stimulus, opening_agenda, restart_of, stimuli_from}
use Rattle.fb_types.specs.declared.key.Key.{Key}
use Rattle.fb_agenda.specs.Agendas.{Contents, waiting}
use Rattle.fb_types.specs.declared.run.Event as waits
use Rattle.fb_resource.specs.Waiting.{IsInOrder, meaning}

-- a resource is the one that is asked for, or all are
abbrev pub is_of : Option ℕ → (resource : ℕ) → Bool
is_of None r = true
is_of (Some q) r = r == q

-- what is under a key of such a resource
abbrev pub only : {X : Type 0} → Option ℕ → Key → Option X → Option X
only of j o = if is_of of j.resource then o else None

-- The events of the opening wait that are of one resource, or all of them.
pub record IsOpened (i : Inputs) (of : Option ℕ) (a : Contents) : Type 0 where
  pub agenda : (j : Key) → meaning i a j ≡ only of j (opening_agenda (system_of i) (stimuli_of i) j)
  pub order : IsInOrder i 0 a
  pub due : length a.due ≡ length (system_of i).paths

-- There is an agenda for each resource, of which this holds.
pub record OneEach (i : Inputs) (Holds : (resource : ℕ) → Contents → Type 0) (agendas : List Contents) : Type 0 where
  pub counted : length agendas ≡ count_of (system_of i)
  pub each : (r : ℕ) (a : Contents) → slice_get agendas r ≡ Some a → Holds r a

-- on the agenda of each resource its own events of the opening wait
abbrev pub AreOpenedApart : Inputs → List Contents → Type 0
AreOpenedApart i agendas = OneEach i (λ r. IsOpened i (Some r)) agendas

-- ---- On the way

-- The key is that of the stimulus at a row.
pub record IsStimulusKey (i : Inputs) (row : ℕ) (k : Key) : Type 0 where
  pub stimulus : Stimulus
  pub is : slice_get (stimuli_of i) row ≡ Some stimulus
  pub key : k ≡ stimulus_key stimulus.tick ((system_of i).resource stimulus.port.at) row

-- the timers that wait are those of instances below this number
abbrev pub HasTimersBelow : ℕ → Contents → Type 0
HasTimersBelow n a = (j : Key) (e : waits.Event) → waiting a j ≡ Some e → j.class ≡ 1 → j.a < n

-- Of the stimuli before a row those wait that are asked for, and nothing else.
pub record HasStimuli (i : Inputs) (of : Option ℕ) (rows : ℕ) (a : Contents) : Type 0 where
  pub agenda : (j : Key) → meaning i a j ≡ only of j (found j (stimuli_from (system_of i) 0 (take rows (stimuli_of i))))
  pub order : IsInOrder i 0 a
  pub timers : HasTimersBelow 0 a
  pub due : length a.due ≡ length (system_of i).paths

-- All stimuli that are asked for do so, and the timers that start by themselves of instances below a number.
pub record HasRestarts (i : Inputs) (of : Option ℕ) (instances : ℕ) (a : Contents) : Type 0 where
  pub agenda : (j : Key) → meaning i a j ≡ only of j (or_else (found j (flat_map (restart_of (system_of i)) (take instances (system_of i).paths))) (found j (stimuli_from (system_of i) 0 (stimuli_of i))))
  pub order : IsInOrder i 0 a
  pub timers : HasTimersBelow instances a
  pub due : length a.due ≡ length (system_of i).paths
