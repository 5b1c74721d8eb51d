-- Taking one event in its resource (this project's profile).
use Rattle.std.specs.Bool.{OnFalse, OnTrue}
use Rattle.std.specs.Prelude.{◌≡◌, ◌+◌, ◌^◌, ◌<◌, ◌≤◌, ◌++◌, ◌∷◌, ℕ, Bool, true, false, [], All, if◌then◌else◌, length, map, Option, Some, None, Result, Ok, Err}
use Rattle.fb_types.specs.Headline.{Inputs, system_of}
use Rattle.fb_types.specs.Keys.{Precedes, changed_to, local_key, same_key}
use Rattle.fb_types.specs.Names.{Path}
use Rattle.fb_types.specs.Numbers.{line_of}
use Rattle.fb_types.specs.States.{State, path_of}
use Rattle.fb_types.specs.States as model
use Rattle.fb_types.specs.Takes.{Effect, Posts, Takes, post_all, timer_change, world_of}
use Rattle.fb_types.specs.declared.key.Key.{Key}
use Rattle.fb_types.specs.declared.run.Event as waiting
use Rattle.fb_types.specs.declared.run.Event.TheVariants as waits
use Rattle.fb_types.specs.declared.run.Halt.{Halt}
use Rattle.fb_types.specs.declared.run.Halt.TheVariants as halt
use Rattle.fb_types.specs.declared.run.Target.{Target}
use Rattle.fb_types.specs.declared.run.TimerAsk.{TimerAsk}
use Rattle.fb_types.specs.declared.run.TimerAsk.TheVariants.{Keep, Clear, At}
use Rattle.fb_types.specs.declared.value.Reason.{Reason}
use Rattle.fb_agenda.specs.Agendas as agendas
use Rattle.fb_agenda.specs.Agendas.{Contents}
use Rattle.fb_agenda.specs.declared.least.Least.{Least}
pub use Rattle.fb_agenda.specs.LeastEvents.{IsRaised}
use Rattle.fb_system.specs.Lines.{BelongsTo}
use Rattle.fb_net.specs.Events.{IsEventIn, event_of}
use Rattle.fb_net.specs.Outs.{out_of}
use Rattle.fb_net.specs.Worlds.{IsForest}
use Rattle.fb_net.specs.declared.outbox.Out.TheVariants.{Local}
use Rattle.fb_net.specs.declared.outbox.Outbox.{Outbox}
use Rattle.fb_net.specs.declared.resource.Forest.{Forest}
use Rattle.fb_laws.specs.Typed.{AreTyped}
use Rattle.fb_resource.specs.Counts.{BeginAlike, meter_of}
use Rattle.fb_resource.specs.Posts.{ArePosted, CountsAre, IsMessage, IsPostable, IsPut, arriving}
use Rattle.fb_resource.specs.Waiting.{IsInOrder, meaning}
use Rattle.fb_resource.specs.declared.traffic.Traffic.{Traffic}
use Rattle.fb_resource.specs.declared.tick_counts.TickCounts.{TickCounts}

-- ---- How a reaction ends

-- the end of a reaction that this reason stopped, or none
abbrev pub ended : Option Reason → Result (Unit {0}) Halt
ended None = Ok tt
ended (Some r) = Err (halt.Stop r)

-- ---- Before and after

-- Nothing was given yet, and nothing is asked of a timer.
pub record IsEmpty (q : Traffic) : Type 0 where
  pub mail : q.mail.items ≡ []
  pub lines : q.outbox.lines.items ≡ []
  pub none : q.outbox.outs.items ≡ []
  pub keeps : q.outbox.timer ≡ Keep

-- The blocks of a resource are those of a state, all of whose values are of their types, and from a tick on its counts are the state's too.
pub record IsHere (i : Inputs) (s : State) (r from : ℕ) (t : Forest) (x : TickCounts) : Type 0 where
  pub blocks : IsForest i t (world_of s r)
  pub meter : BeginAlike from (s.meters r) (meter_of x)
  pub typed : (q : ℕ) → AreTyped (system_of i) (world_of s q)

-- From a tick on events may be taken.
pub record AreReady (i : Inputs) (tick : ℕ) (q : Traffic) : Type 0 where
  pub order : IsInOrder i tick q.agenda
  pub due : length q.agenda.due ≡ length (system_of i).paths
  pub counted : length q.sent.items ≡ (system_of i).links
  pub mail : All (IsMessage i) q.mail.items
  pub lines : All (BelongsTo (system_of i)) q.outbox.lines.items
  pub none : q.outbox.outs.items ≡ []
  pub keeps : q.outbox.timer ≡ Keep

-- The event of a key, which had left the agenda, was taken as the model takes it, whether or not its resource stops.
pub record IsTakenHere (i : Inputs) (limit : ℕ) (s : State) (k : Key) (e : model.Event) (stop : Option Reason) (from : ℕ) (t : Forest) (x : TickCounts) (old new : Traffic) : Type 0 where
  pub effect : Effect
  pub takes : Takes (system_of i) limit s k e effect
  pub stops : effect.stop ≡ stop
  pub here : IsHere i effect.state k.resource from t x
  pub counts : CountsAre new.sent.items effect.state.sent
  pub agenda : (j : Key) → meaning i new.agenda j ≡ changed_to (effect.changes j) (meaning i old.agenda j)
  pub mail : map (arriving i) new.mail.items ≡ map (arriving i) old.mail.items ++ effect.sent
  pub lines : map (line_of (system_of i)) new.outbox.lines.items ≡ map (line_of (system_of i)) old.outbox.lines.items ++ effect.lines

-- ---- On the way

-- A timer that is set goes off at a tick or later.
abbrev pub IsLater : (tick : ℕ) → TimerAsk → Type 0
IsLater tick Keep = Unit {0}
IsLater tick Clear = Unit {0}
IsLater tick (At t) = tick ≤ t

-- The timer of the instance at a path was set as it asked, and then the posts were put where they go.
pub record IsSettled (i : Inputs) (k : Key) (at : Path) (ask : TimerAsk) (x : Posts) (old new : Traffic) (locals : ℕ) : Type 0 where
  pub mid : Contents
  pub set : (j : Key) → meaning i mid j ≡ changed_to (timer_change (system_of i) k.resource at ask j) (meaning i old.agenda j)
  pub posted : ArePosted i x mid new.agenda old.mail.items new.mail.items locals new.sent.items

-- What taking the event in `Least` put out may be posted, and its timer set.
pub record MaySettle (i : Inputs) (l : Least) (q : Traffic) : Type 0 where
  pub event : IsEventIn i l.key.resource l.event
  pub named : l.key.resource < length (system_of i).resource_names
  pub early : l.key.tick ≤ 10 ^ 12
  pub order : IsInOrder i l.key.tick q.agenda
  pub due : length q.agenda.due ≡ length (system_of i).paths
  pub counted : length q.sent.items ≡ (system_of i).links
  pub mail : All (IsMessage i) q.mail.items
  pub later : IsLater l.key.tick q.outbox.timer
  pub outs : All (IsPostable (system_of i) l.key.resource) q.outbox.outs.items
  pub lines : All (BelongsTo (system_of i)) q.outbox.lines.items

-- The timer was set and what the outbox puts out was posted, whatever was sent before.
abbrev pub AreSettled : (i : Inputs) (k : Key) (e : waiting.Event) (before : ℕ) (old new : Traffic) (after : ℕ) → Type 0
AreSettled i k e before old new after =
    (counts : ℕ → ℕ) → CountsAre old.sent.items counts
    → IsSettled i k (path_of (event_of i e)) old.outbox.timer
    (post_all (system_of i) k (map (out_of (system_of i)) old.outbox.outs.items) (record { locals = before; sent = counts; raised = []; messages = [] })) old new after

-- The event is settled, and events may be taken again. The messages arrive later than the event, at most 2^64 local events were counted, and the
-- lines stay.
pub record Settles (i : Inputs) (l : Least) (before : ℕ) (old : Traffic) (after : ℕ) (new : Traffic) : Type 0 where
  pub settled : AreSettled i l.key l.event before old new after
  pub ready : AreReady i l.key.tick new
  pub later : All (λ m. l.key.tick < m.arrives) old.mail.items → All (λ m. l.key.tick < m.arrives) new.mail.items
  pub few : after ≤ before + 2 ^ 64
  pub lines : new.outbox.lines.items ≡ old.outbox.lines.items

-- All was posted and nothing is asked of a timer; the lines stay.
pub record IsEmptied (old new : Outbox) : Type 0 where
  pub lines : new.lines.items ≡ old.lines.items
  pub none : new.outs.items ≡ []
  pub keeps : new.timer ≡ Keep

-- One local event had been put out, and nothing was asked of the timer. The event was posted under its number.
pub record IsLone (k : Key) (t : Target) (old new : Contents) (before after : ℕ) (from to : Outbox) : Type 0 where
  pub alone : from.outs.items ≡ Local t ∷ []
  pub keeps : from.timer ≡ Keep
  pub put : IsPut old new (local_key k.tick k.resource before) (waits.Local t)
  pub due : new.due ≡ old.due
  pub counted : after ≡ before + 1
  pub emptied : IsEmptied from to

-- ---- The next event

-- an agenda on which an event waits in addition
abbrev pub with_event : Key → waiting.Event → Contents → Contents
with_event k e a = record a { running = (k, e) ∷ a.running }

-- an agenda on which the event in `Least` waits too, if it was raised
abbrev pub with_next : Bool → Key → waiting.Event → Contents → Contents
with_next true k e a = with_event k e a
with_next false k e a = a

-- traffic on whose agenda the event in `Least` waits too, if it was raised
abbrev pub with_least_event : Bool → Least → Traffic → Traffic
with_least_event b l q = record q { agenda = with_next b l.key l.event q.agenda }

-- The least event of an agenda, if its tick is below the horizon, was found and left it. Else it is as it was.
pub record Finds (horizon : ℕ) (was : Contents) (is : Bool) (k : Key) (e : waiting.Event) (now : Contents) : Type 0 where
  pub found : OnTrue is (agendas.waiting was k ≡ Some e)
  pub below : OnTrue is (k.tick < horizon)
  pub least : OnTrue is ((j : Key) → Precedes j k → agendas.waiting was j ≡ None)
  pub left : OnTrue is ((j : Key) → agendas.waiting now j ≡ (if same_key k j then None else agendas.waiting was j))
  pub none : OnFalse is ((j : Key) → j.tick < horizon → agendas.waiting was j ≡ None)
  pub kept : OnFalse is ((j : Key) → agendas.waiting now j ≡ agendas.waiting was j)
