-- What the copies of basic blocks represent that react to the events of a run (this project's own).
use Rattle.std.specs.Prelude.{◌≡◌, ◌<◌, ℕ, List, [], ◌∷◌, length, Option, Some, None, slice_get, slice_set}
use Rattle.fb_types.specs.Blocks.{Basic}
use Rattle.fb_types.specs.Charts.{ChartReacts, Position}
use Rattle.fb_types.specs.Headline.{Inputs, system_of}
use Rattle.fb_types.specs.Numbers.{event_at, path_at}
use Rattle.fb_types.specs.States.{Block, State, Event}
use Rattle.fb_types.specs.declared.key.Key.{Key}
use Rattle.fb_types.specs.declared.library.BasicType.{BasicType}
use Rattle.fb_types.specs.declared.run.Emission.{Emission}
use Rattle.fb_types.specs.declared.run.Line.{Line}
use Rattle.fb_types.specs.declared.run.Target.{Target}
use Rattle.fb_types.specs.declared.value.Reason.{Reason}
use Rattle.fb_types.specs.declared.value.Value.{Value}
use Rattle.fb_st.specs.Frames.{values_of}
use Rattle.fb_ecc.specs.Indexes.{IsBlockOf, index, sampled}
use Rattle.fb_ecc.specs.Sound.{IsSound}
use Rattle.fb_ecc.specs.declared.state.BasicState.{BasicState}
use Rattle.fb_net.specs.Worlds.{BasicRepresents}
use Rattle.fb_sim_machine.specs.Machines.{IsTaken}
use Rattle.fb_sim_machine.specs.declared.machine.Machine.{Machine}
use Rattle.fb_stop.specs.Found.{IsSite, ArrivesAt}
use Rattle.fb_stop.specs.Links.{HasReacted}
use Rattle.fb_stop.specs.declared.found.EventSite.{EventSite}
use Rattle.fb_stop.specs.declared.found.EventSite.TheVariants.{Port as AtPort}
use Rattle.fb_stop.specs.declared.found.FoundStop.{FoundStop}
use Rattle.fb_stop.specs.declared.found.StopSite.{StopSite}
use Rattle.fb_stop.specs.declared.found.StopSite.TheVariants.{BeforeEvent, InReaction}
use Rattle.fb_stop.specs.declared.replay.Replay.{Replay}
use Rattle.fb_stop.specs.declared.site.ReactionStop.{ReactionStop}
use Rattle.fb_stop.specs.declared.site.Site.{Site}
use Rattle.fb_types.specs.States as model
use Rattle.fb_types.specs.Takes.{Effect, Takes}

-- Where an instance is a basic block, its copy has what the block remembers.
abbrev pub IsCopy : Inputs → (instance : ℕ) → Block → Option BasicState → Type 0
IsCopy i k b copy =
    (t : BasicType) → (system_of i).kind (path_at (system_of i) k) ≡ Some (Basic t) → (x : BasicState) × (copy ≡ Some x) × BasicRepresents t x b.memory b.variables

-- The copies are those of the first instances.
pub record AreCopies (i : Inputs) (count : ℕ) (s : State) (copies : List (Option BasicState)) : Type 0 where
  pub counted : length copies ≡ count
  pub each : (k : ℕ) (copy : Option BasicState) → slice_get copies k ≡ Some copy → IsCopy i k (s.blocks (path_at (system_of i) k)) copy

-- The copies are those of all instances.
abbrev pub AreAllCopies : Inputs → State → List (Option BasicState) → Type 0
AreAllCopies i s copies = AreCopies i (length (system_of i).paths) s copies

-- where the chart of a copy begins its reaction
abbrev pub begins_at : BasicType → BasicState → (event : ℕ) → List Value → (left : ℕ) → List Emission → Position
begins_at t x event values left emits =
    record (index t x.state x.frame left emits) { vars = sampled t event values (values_of x.frame) }

-- The copy is there, and a block of the type.
pub record IsWhole (t : BasicType) (copy : Option BasicState) : Type 0 where
  pub state : BasicState
  pub is : copy ≡ Some state
  pub sound : IsSound t
  pub block : IsBlockOf t state

-- A copy has reacted to an event.
pub record HasFollowed (t : BasicType) (event : ℕ) (values : List Value) (left : ℕ) (old new : Option BasicState) : Type 0 where
  pub before : BasicState
  pub was : old ≡ Some before
  pub after : BasicState
  pub is : new ≡ Some after
  pub stop : Option Reason
  pub rest : ℕ
  pub emits : List Emission
  pub reacts : ChartReacts t (event_at t.ports.event_inputs event) (begins_at t before event values left []) stop (index t after.state after.frame rest emits)
  pub block : IsBlockOf t after

-- The reaction of a copy to an event stops so, or comes to rest.
pub record HasLocated (t : BasicType) (event : ℕ) (values : List Value) (left : ℕ) (copy : Option BasicState) (stop : Option ReactionStop) : Type 0 where
  pub state : BasicState
  pub is : copy ≡ Some state
  pub position : Position
  pub reacted : HasReacted t (event_at t.ports.event_inputs event) stop (begins_at t state event values left []) position

-- ---- The copy at which an event arrives

-- The copy at an index is one of the instance there, which is of this type.
pub record IsCopyAt (i : Inputs) (copies : List (Option BasicState)) (t : Target) (block : BasicType) : Type 0 where
  pub kind : (system_of i).kind (path_at (system_of i) t.instance) ≡ Some (Basic block)
  pub copy : Option BasicState
  pub at : slice_get copies t.instance ≡ Some copy

-- It has reacted, and the others are as they were.
pub record FollowsAt (i : Inputs) (t : Target) (block : BasicType) (left : ℕ) (line : Line) (old new : List (Option BasicState)) : Type 0 where
  pub before : IsCopyAt i old t block
  pub after : Option BasicState
  pub followed : HasFollowed block t.event line.values left before.copy after
  pub is : new ≡ slice_set old t.instance after

-- The copy at the port where an event arrived has reacted with what the first line says, if steps were left for that. Another instance has none.
abbrev pub IsFollowed : Inputs → EventSite → (left : Option ℕ) → List Line → (old new : List (Option BasicState)) → Type 0
IsFollowed i (AtPort t) (Some left) (line ∷ lines) old new =
    ((block : BasicType) → (system_of i).kind (path_at (system_of i) t.instance) ≡ Some (Basic block) → FollowsAt i t block left line old new)
    × (((block : BasicType) → ¬ ((system_of i).kind (path_at (system_of i) t.instance) ≡ Some (Basic block))) → new ≡ old)
IsFollowed i at left lines old new = new ≡ old

-- The event arrives at a basic block whose reaction, by what the first line says, does not come to rest.
pub record Stopping (i : Inputs) (at : EventSite) (left : ℕ) (lines : List Line) (copies : List (Option BasicState)) : Type 0 where
  pub target : Target
  pub port : at ≡ AtPort target
  pub instance : target.instance < length (system_of i).paths
  pub block : BasicType
  pub event : target.event < length block.ports.event_inputs
  pub here : IsCopyAt i copies target block
  pub whole : IsWhole block here.copy
  pub line : Line
  pub rest : List Line
  pub lines_are : lines ≡ line ∷ rest
  pub never_rests : (x : BasicState) (p : Position) → here.copy ≡ Some x → ¬ (ChartReacts block (event_at block.ports.event_inputs target.event) (begins_at block x target.event line.values left []) None p)

-- It stops at the site.
pub record IsLocated (i : Inputs) (at : EventSite) (left : ℕ) (lines : List Line) (copies : List (Option BasicState)) (x : Site) : Type 0 where
  pub target : Target
  pub port : at ≡ AtPort target
  pub block : BasicType
  pub here : IsCopyAt i copies target block
  pub line : Line
  pub rest : List Line
  pub lines_are : lines ≡ line ∷ rest
  pub reason : Reason
  pub located : HasLocated block target.event line.values left here.copy (Some (record { reason = reason; site = x }))

-- No step was left for the event, or it stops at the site.
abbrev pub IsSiteBy : Inputs → EventSite → (left : Option ℕ) → List Line → List (Option BasicState) → StopSite → Type 0
IsSiteBy i at None lines copies x = x ≡ BeforeEvent
IsSiteBy i at (Some left) lines copies x = (s : Site) × (x ≡ InReaction s) × IsLocated i at left lines copies s

-- ---- One event

-- The run has taken an event that does not stop it, and the copies have reacted.
pub record HasStepped (i : Inputs) (limit : ℕ) (s : State) (a : model.Agenda) (k : Key) (e : Event) (new : Replay) : Type 0 where
  pub from : Machine
  pub taken : IsTaken i limit s a k e None from new.run
  pub copies : AreAllCopies i taken.effect.state new.copies.items

-- The event stops the run, there.
pub record HasStopped (i : Inputs) (limit : ℕ) (s : State) (k : Key) (e : Event) (f : FoundStop) : Type 0 where
  pub effect : Effect
  pub takes : Takes (system_of i) limit s k e effect
  pub key : f.key ≡ k
  pub stops : effect.stop ≡ Some f.reason
  pub arrives : ArrivesAt (system_of i) e f.at
  pub site : IsSite (system_of i) limit s k e f.reason f.at f.site

abbrev pub Steps : Inputs → (limit : ℕ) → State → model.Agenda → Key → Event → (new : Replay) → Option FoundStop → Type 0
Steps i limit s a k e new None = HasStepped i limit s a k e new
Steps i limit s a k e new (Some f) = HasStopped i limit s k e f
