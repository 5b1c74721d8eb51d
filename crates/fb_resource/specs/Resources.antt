-- One resource by itself, in code: what it represents, and what becomes of it (this project's profile).
use Rattle.std.specs.Prelude.{◌≡◌, ◌<◌, ◌≤◌, ℕ, true, false, List, length, map, All, Option, Some, None, IsSome, ◌==◌, slice_get}
use Rattle.fb_types.specs.Cores.{clock_after}
use Rattle.fb_types.specs.Headline.{Inputs, system_of, stimuli_of}
use Rattle.fb_types.specs.Keys.{found, or_else}
use Rattle.fb_types.specs.Machines.{Item, Local, Run, end, lines_of, sent_by}
use Rattle.fb_types.specs.Machines as machines
use Rattle.fb_types.specs.Numbers.{line_of}
use Rattle.fb_types.specs.Parts.{count_of, local_of, machine, part_of}
use Rattle.fb_types.specs.Simulation.{opening}
use Rattle.fb_types.specs.States.{State}
use Rattle.fb_types.specs.Takes.{world_of}
use Rattle.fb_types.specs.declared.key.Key.{Key}
use Rattle.fb_types.specs.declared.run.Line.{Line}
use Rattle.fb_types.specs.declared.run.Message.{Message}
use Rattle.fb_types.specs.declared.run.StopMark.{StopMark}
use Rattle.fb_types.specs.declared.value.Reason.{Reason}
use Rattle.fb_agenda.specs.Agendas.{waiting}
use Rattle.fb_types.specs.declared.run.Event.{Event}
use Rattle.fb_system.specs.Lines.{BelongsTo}
use Rattle.fb_net.specs.Worlds.{IsForest}
use Rattle.fb_laws.specs.Typed.{AreTyped}
use Rattle.fb_resource.specs.Counts.{IsUnused}
use Rattle.fb_resource.specs.Posts.{CountsAre, IsMessage, arriving, receiver_of}
use Rattle.fb_resource.specs.Waiting.{IsInOrder, meaning}
use Rattle.fb_resource.specs.declared.resource.Resource.{Resource}
use Rattle.fb_resource.specs.declared.resource.WindowDone.{WindowDone}
use Rattle.fb_resource.specs.declared.resource.WindowDone.TheVariants.{NoMemory, Ran}

-- ---- What it represents

-- A resource represents one by itself. What that one has of other resources' keys does not matter. Until it stops, it has used no step of a tick from its clock on.
pub record Represents (i : Inputs) (limit : ℕ) (l : Local (machine (system_of i) limit)) (x : Resource) : Type 0 where
  pub state : State
  pub part : l.part ≡ part_of (system_of i) x.tree.resource state
  pub blocks : IsForest i x.tree (world_of state x.tree.resource)
  pub typed : (r : ℕ) → AreTyped (system_of i) (world_of state r)
  pub unused : x.stopped ≡ None → IsUnused x.clock (state.meters x.tree.resource)
  pub counts : CountsAre x.sent.items state.sent
  pub own : (j : Key) → (j.class == 2) ≡ true → l.own j ≡ None
  pub inbox : (j : Key) → (j.class == 2) ≡ false → l.inbox j ≡ None
  pub waits : (j : Key) → j.resource ≡ x.tree.resource → machines.waiting (machine (system_of i) limit) l j ≡ meaning i x.agenda j
  pub stop : l.stop ≡ x.stopped

-- A resource of the system, between two runs: its own events wait, none before its clock.
pub record IsOf (i : Inputs) (x : Resource) : Type 0 where
  pub named : x.tree.resource < count_of (system_of i)
  pub order : IsInOrder i x.clock x.agenda
  pub due : length x.agenda.due ≡ length (system_of i).paths
  pub counted : length x.sent.items ≡ (system_of i).links
  pub home : (j : Key) (e : Event) → waiting x.agenda j ≡ Some e → j.resource ≡ x.tree.resource
  pub represents : (limit : ℕ) → (l : Local (machine (system_of i) limit)) × Represents i limit l x

-- an event below the tick waits
abbrev pub IsBusy : (tick : ℕ) → Resource → Type 0
IsBusy t x = (j : Key) × (j.tick < t) × IsSome (waiting x.agenda j)

-- A resource as it is before the first event.
pub record IsFresh (i : Inputs) (r : ℕ) (x : Resource) : Type 0 where
  pub numbered : x.tree.resource ≡ r
  pub clock : x.clock ≡ 0
  pub live : x.stopped ≡ None
  pub of : IsOf i x
  pub state : (limit : ℕ) → Represents i limit (local_of (system_of i) limit r (opening (system_of i) (stimuli_of i)) None) x

-- The resources of a system, in order, as they are before the first event.
pub record AreOpened (i : Inputs) (xs : List Resource) : Type 0 where
  pub counted : length xs ≡ count_of (system_of i)
  pub numbered : (r : ℕ) (x : Resource) → slice_get xs r ≡ Some x → x.tree.resource ≡ r
  pub of : (r : ℕ) (x : Resource) → slice_get xs r ≡ Some x → IsOf i x
  pub clock : (r : ℕ) (x : Resource) → slice_get xs r ≡ Some x → x.clock ≡ 0
  pub state : (limit r : ℕ) (x : Resource) → slice_get xs r ≡ Some x → Represents i limit (local_of (system_of i) limit r (opening (system_of i) (stimuli_of i)) None) x

-- ---- A run

-- where and why it stopped
abbrev pub mark_of : (resource : ℕ) → (clock : ℕ) → Option Reason → Option StopMark
mark_of r t None = None
mark_of r t (Some q) = Some (record { tick = t; resource = r; reason = q })

-- It has taken all below the tick, or up to its stop.
pub record RanTo (i : Inputs) (limit : ℕ) (l : Local (machine (system_of i) limit)) (to : ℕ) (x : Resource) (ls : List Line) (ms : List Message) : Type 0 where
  pub items : List (Item (machine (system_of i) limit))
  pub run : Run (machine (system_of i) limit) x.tree.resource l to items
  pub represents : Represents i limit (end (machine (system_of i) limit) l items) x
  pub clock : x.clock ≡ clock_after (machine (system_of i) limit) to items
  pub lines : map (line_of (system_of i)) ls ≡ lines_of (machine (system_of i) limit) items
  pub sent : map (arriving i) ms ≡ sent_by (machine (system_of i) limit) items

-- What becomes of it in a run below a tick. Where memory ran out nothing is said.
abbrev pub HasRun : Inputs → (limit : ℕ) → Resource → (to : ℕ) → WindowDone → Type 0
HasRun i limit old to (Ran new lines sent stop) =
    IsOf i new × (new.tree.resource ≡ old.tree.resource) × All (BelongsTo (system_of i)) lines.items × All (IsMessage i) sent.items
    × (stop ≡ mark_of new.tree.resource new.clock new.stopped)
    × ((l : Local (machine (system_of i) limit)) → Represents i limit l old → RanTo i limit l to new lines.items sent.items)
HasRun i limit old to NoMemory = Unit {0}

-- ---- Messages

-- All is the same but the agenda.
abbrev pub IsSameBesides : Resource → Resource → Type 0
IsSameBesides old new = new ≡ record old { agenda = new.agenda }

-- All is the same, and what waits too.
pub record IsSame (old new : Resource) : Type 0 where
  pub besides : IsSameBesides old new
  pub waits : (j : Key) → waiting new.agenda j ≡ waiting old.agenda j
  pub due : new.agenda.due ≡ old.agenda.due

-- A message of the system that goes to the resource, and does not come too late.
pub record IsFor (i : Inputs) (x : Resource) (m : Message) : Type 0 where
  pub message : IsMessage i m
  pub here : receiver_of (system_of i) m ≡ x.tree.resource
  pub later : x.clock ≤ m.arrives

-- the resource by itself with messages that have come
abbrev pub with_messages : (i : Inputs) (limit : ℕ) → List Message → Local (machine (system_of i) limit) → Local (machine (system_of i) limit)
with_messages i limit ms l = record l { inbox = λ k. or_else (found k (map (arriving i) ms)) (l.inbox k) }

-- Messages for it have come: it is still one of the system, and represents what it represented, with the messages in its inbox.
pub record HasReceived (ms : List Message) (old new : Resource) : Type 0 where
  pub besides : IsSameBesides old new
  pub of : (i : Inputs) → IsOf i old → All (IsFor i old) ms → IsOf i new
  pub represents : (i : Inputs) (limit : ℕ) → IsOf i old → All (IsFor i old) ms
      → (l : Local (machine (system_of i) limit)) → Represents i limit l old → Represents i limit (with_messages i limit ms l) new
