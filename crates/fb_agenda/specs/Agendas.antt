-- What an agenda contains, and what its timers must be (this project's profile).
use Rattle.std.specs.Prelude.{◌≡◌, ◌≢◌, ◌<◌, ◌≤◌, ℕ, true, List, Option, Some, None, IsSome, if◌then◌else◌, map, slice_index}
use Rattle.std.specs.List.{AllByRecursion}
use Rattle.std.specs.List.Sorted.{IsStrictlySortedBy}
use Rattle.std.specs.Map.{keys_of, lookup}
use Rattle.fb_types.specs.Keys.{Map, Precedes, key_cmp, local_key, or_else, same_key, timer_key}
use Rattle.fb_types.specs.Takes.{is_timer_of}
use Rattle.fb_types.specs.declared.key.Key.{Key}
use Rattle.fb_types.specs.declared.run.Target.{Target}
use Rattle.fb_types.specs.declared.run.TimerAsk.{TimerAsk}
use Rattle.fb_types.specs.declared.run.TimerAsk.TheVariants.{Keep, Clear, At}
use Rattle.fb_types.specs.declared.run.Event.{Event}
use Rattle.fb_types.specs.declared.run.Event.TheVariants.{Local, Timer}

-- The local events in the queue of the running tick, all other events, and for each instance the tick of its timer.
pub record Contents : Type 0 where
  pub running : List (Key × Event)
  pub later : List (Key × Event)
  pub due : List ℕ

-- what waits under a key
abbrev pub waiting : Contents → Map Event
waiting c j = or_else (lookup (same_key j) c.running) (lookup (same_key j) c.later)

-- an event was put under a key
abbrev pub IsPut : (old new : Contents) → Key → Event → Type 0
IsPut old new k e = (j : Key) → waiting new j ≡ (if same_key k j then Some e else waiting old j)

-- the keys of a list rise
abbrev pub AreRising : List (Key × Event) → Type 0
AreRising es = IsStrictlySortedBy key_cmp (keys_of es)

-- ---- The queue of the running tick

-- local events, of which the queue has the targets
abbrev pub event_of : Key × Target → Key × Event
event_of t = (t.0, Local t.1)

abbrev pub local_events : List (Key × Target) → List (Key × Event)
local_events ts = map event_of ts

-- a local event of this tick and resource, by its number and its target
abbrev pub keyed : (tick resource : ℕ) → ℕ × Target → Key × Target
keyed t r e = (local_key t r e.0, e.1)

-- The event has this tick and resource.
abbrev pub IsAt : (tick resource : ℕ) → Key × Target → Type 0
IsAt t r e = (e.0.tick ≡ t) × (e.0.resource ≡ r)

-- Its keys rise, have one tick, and are those of local events.
pub record IsQueue (es : List (Key × Event)) : Type 0 where
  pub rising : AreRising es
  pub tick : (j k : Key) → IsSome (lookup (same_key j) es) → IsSome (lookup (same_key k) es) → j.tick ≡ k.tick
  pub local : (j : Key) → j.class ≢ 3 → lookup (same_key j) es ≡ None

-- All its keys precede this one, and have its tick.
pub record MayFollow (es : List (Key × Event)) (k : Key) : Type 0 where
  pub before : AllByRecursion (λ j. Precedes j k) (keys_of es)
  pub tick : (j : Key) → IsSome (lookup (same_key j) es) → j.tick ≡ k.tick

-- The queue is one of a tick, and none of its keys is among the others.
pub record AreApart (c : Contents) : Type 0 where
  pub queue : IsQueue c.running
  pub apart : (j : Key) → IsSome (lookup (same_key j) c.running) → lookup (same_key j) c.later ≡ None

-- The list has the key, and none before it.
pub record IsFirst (es : List (Key × Event)) (k : Key) : Type 0 where
  pub there : IsSome (lookup (same_key k) es)
  pub none_before : (j : Key) → Precedes j k → lookup (same_key j) es ≡ None

-- It is the tick of the first key.
abbrev pub IsFirstTick : List (Key × Event) → ℕ → Type 0
IsFirstTick es t = (k : Key) × (k.tick ≡ t) × IsFirst es k

-- An event waits under the key, and none under a key before it.
pub record IsLeast (c : Contents) (k : Key) : Type 0 where
  pub waits : IsSome (waiting c k)
  pub none_before : (j : Key) → Precedes j k → waiting c j ≡ None

-- No event waits at this tick in this resource, nor before.
pub record IsClear (tick resource : ℕ) (c : Contents) : Type 0 where
  pub below : (j : Key) → j.tick < tick → waiting c j ≡ None
  pub up_to : (j : Key) → j.tick ≡ tick → j.resource ≤ resource → waiting c j ≡ None

-- Nothing waits below this tick, and something waits at it.
pub record IsNext (c : Contents) (t : ℕ) : Type 0 where
  pub waits : (j : Key) × (j.tick ≡ t) × IsSome (waiting c j)
  pub none_below : (j : Key) → IsSome (waiting c j) → t ≤ j.tick

-- ---- Timers

-- A timer that waits is under the key of its instance, at the instance's tick in `due`.
abbrev pub IsTimed : Contents → Type 0
IsTimed c =
    (j : Key) (r i : ℕ) (e : Event) → waiting c j ≡ Some e → is_timer_of r i j ≡ true
    → same_key (timer_key (slice_index c.due i) r i) j ≡ true

-- A timer of the instance that waits is of this resource.
abbrev pub IsInResource : (resource instance : ℕ) → Contents → Type 0
IsInResource r i c = (j : Key) (s : ℕ) (e : Event) → waiting c j ≡ Some e → is_timer_of s i j ≡ true → s ≡ r

-- what a request to a timer changes on the agenda
abbrev pub timer_set : (resource instance : ℕ) → TimerAsk → Key → Option (Option Event)
timer_set r i Keep j = None
timer_set r i Clear j = if is_timer_of r i j then Some None else None
timer_set r i (At t) j =
    if same_key (timer_key t r i) j then Some (Some (Timer i)) else if is_timer_of r i j then Some None else None
