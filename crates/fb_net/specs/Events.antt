-- Events by number, and the result of the taking of one in its resource (IEC 61499-1, 5.2.2 and 5.3.2; keys, links and the count of steps are this project's profile).
use Rattle.std.specs.Prelude.{◌≡◌, ◌<◌, ℕ, List, [], map, length, All, Option, Some, None, Result, Ok, Err, slice_get}
use Rattle.fb_types.specs.Headline.{Inputs, system_of, stimuli_of}
use Rattle.fb_types.specs.Numbers.{path_at, port_of, carried_of, line_of}
use Rattle.fb_types.specs.Reactions.{World, Outcome, Reacts}
use Rattle.fb_types.specs.Simulation.{Stimulus}
use Rattle.fb_types.specs.declared.deploy.Stimulus as read
use Rattle.fb_types.specs.declared.run.GivenRow.{GivenRow}
use Rattle.fb_types.specs.States.{Stimulated, Expired, Arrived, Raised, path_of}
use Rattle.fb_types.specs.States as model
use Rattle.fb_types.specs.Keys.{local_key, message_key, stimulus_key, timer_key}
use Rattle.fb_types.specs.declared.key.Key.{Key}
use Rattle.fb_types.specs.declared.run.Halt.{Halt}
use Rattle.fb_types.specs.declared.run.Halt.TheVariants as halt
use Rattle.fb_types.specs.declared.value.Reason.{Reason}
use Rattle.fb_types.specs.declared.run.Event.{Event}
use Rattle.fb_types.specs.declared.run.Event.TheVariants as waits
use Rattle.fb_net.specs.Outs.{Gathered, RepresentsOutcome, gathered, only_lines}
use Rattle.fb_net.specs.declared.arrival.Arrival.{Arrival}
use Rattle.fb_net.specs.declared.outbox.Outbox.{Outbox}
use Rattle.fb_system.specs.Ports.{IsCarried, IsTarget}
use Rattle.fb_system.specs.Stimuli.{IsGivenRow, sets_of}
use Rattle.fb_net.specs.Worlds.{IsForest}
use Rattle.fb_net.specs.declared.resource.Forest.{Forest}

-- ---- Events

abbrev pub stimulated : Option Stimulus → model.Event
stimulated None = Expired []
stimulated (Some s) = Stimulated s.port s.sets

-- what an event that waits is in the model
abbrev pub event_of : Inputs → Event → model.Event
event_of i (waits.Stimulus row) = stimulated (slice_get (stimuli_of i) row)
event_of i (waits.Timer k) = Expired (path_at (system_of i) k)
event_of i (waits.Arrival m) = Arrived (port_of (system_of i) m.target) (map (carried_of (system_of i)) m.values)
event_of i (waits.Local t) = Raised (port_of (system_of i) t)
event_of i (waits.Given g) = Stimulated (port_of (system_of i) g.target) (sets_of (system_of i) g)

-- What a row that was given means does not depend on the stimuli that were read.
abbrev pub MeansAlone : Type 0
MeansAlone = (i : Inputs) (more : List read.Stimulus) (g : GivenRow) → event_of (record i { stimuli = more }) (waits.Given g) ≡ event_of i (waits.Given g)

-- the numbers of an event represent something in the system
abbrev pub IsNumbered : Inputs → Event → Type 0
IsNumbered i (waits.Stimulus row) = row < length i.stimuli
IsNumbered i (waits.Timer k) = k < length (system_of i).paths
IsNumbered i (waits.Arrival m) = IsTarget (system_of i) m.target × All (IsCarried (system_of i)) m.values
IsNumbered i (waits.Local t) = IsTarget (system_of i) t
IsNumbered i (waits.Given g) = IsGivenRow (system_of i) g

-- An event of a resource.
pub record IsEventIn (i : Inputs) (resource : ℕ) (e : Event) : Type 0 where
  pub numbered : IsNumbered i e
  pub here : (system_of i).resource (path_of (event_of i e)) ≡ resource

-- ---- Keys

-- the key of an event that waits, by its number where it is a local event
abbrev pub key_by : (tick resource number : ℕ) → Event → Key
key_by tick r n (waits.Stimulus row) = stimulus_key tick r row
key_by tick r n (waits.Timer k) = timer_key tick r k
key_by tick r n (waits.Arrival m) = message_key tick r m.link m.number
key_by tick r n (waits.Local t) = local_key tick r n
key_by tick r n (waits.Given g) = stimulus_key tick r g.row

-- the key under which an event of a resource arrives
abbrev pub key_at : (tick resource : ℕ) → Arrival → Key
key_at tick r a = key_by tick r a.number a.event.now

-- The key has the class and the numbers of the event.
abbrev pub IsKeyOf : Key → Event → Type 0
IsKeyOf k e = k ≡ key_by k.tick k.resource k.a e

-- ---- The taking

-- An event was taken as the model takes it, from the world on, and the resource goes on, or stops for a reason.
pub record CameTo (i : Inputs) (k : Key) (e : Event) (before : Gathered) (left : ℕ) (stop : Option Reason) (new : Forest) (after : ℕ) (x : Outbox) (w : World) : Type 0 where
  pub outcome : Outcome
  pub reacts : Reacts (system_of i) k w (event_of i e) left outcome
  pub stops : outcome.stop ≡ stop
  pub leaves : outcome.left ≡ after
  pub represents : RepresentsOutcome i before new x outcome

-- The taking has this outcome in each world that the blocks represented, after what the outbox had before.
abbrev pub Came : Inputs → Key → Event → Forest → Outbox → (left : ℕ) → Option Reason → Forest → (after : ℕ) → Outbox → Type 0
Came i k e old before left stop new after x =
    (w : World) → IsForest i old w → CameTo i k e (gathered i before) left stop new after x w

-- The taking has this outcome after lines alone, where nothing was to go out and nothing was asked of the timer.
abbrev pub CameAlone : Inputs → Key → Event → Forest → Outbox → (left : ℕ) → Option Reason → Forest → (after : ℕ) → Outbox → Type 0
CameAlone i k e old before left stop new after x =
    (w : World) → IsForest i old w → CameTo i k e (only_lines (map (line_of (system_of i)) before.lines.items)) left stop new after x w

-- How a taking ended. If memory ran out, nothing is said.
abbrev pub HasTaken : Inputs → Key → Event → Forest → Outbox → (left : ℕ) → Result (Unit {0}) Halt → Forest → (after : ℕ) → Outbox → Type 0
HasTaken i k e old before left (Ok _) new after x = Came i k e old before left None new after x
HasTaken i k e old before left (Err (halt.Stop r)) new after x = Came i k e old before left (Some r) new after x
HasTaken i k e old before left (Err halt.Memory) new after x = Unit {0}

-- said of all that does not end with out of memory
abbrev pub Remembered : Result (Unit {0}) Halt → Type 0 → Type 0
Remembered (Ok _) holds = holds
Remembered (Err (halt.Stop r)) holds = holds
Remembered (Err halt.Memory) holds = Unit {0}
