-- What may wait on an agenda (this project's profile).
use Rattle.std.specs.Prelude.{◌≡◌, ◌≤◌, ◌<◌, ℕ, true, length, option_map, Option, Some}
use Rattle.fb_types.specs.Headline.{Inputs, system_of}
use Rattle.fb_types.specs.States as model
use Rattle.fb_types.specs.Takes.{is_timer_of}
use Rattle.fb_types.specs.declared.key.Key.{Key}
use Rattle.fb_agenda.specs.Agendas.{Contents, waiting, IsTimed}
use Rattle.fb_types.specs.declared.run.Event.{Event}
use Rattle.fb_types.specs.declared.run.Event.TheVariants.{Timer}
use Rattle.fb_net.specs.Events.{IsEventIn, IsKeyOf, event_of}
use Rattle.fb_laws.specs.Typed.{IsTypedEvent}

-- the events that wait, as the model has them
abbrev pub meaning : Inputs → Contents → Key → Option model.Event
meaning i a j = option_map (event_of i) (waiting a j)

-- An event that may wait under a key: one of the key's resource, not before a tick, which carries values of their types. The key is its own.
pub record MayWait (i : Inputs) (tick : ℕ) (j : Key) (e : Event) : Type 0 where
  pub event : IsEventIn i j.resource e
  pub resource : j.resource < length (system_of i).resource_names
  pub later : tick ≤ j.tick
  pub typed : IsTypedEvent (system_of i) (event_of i e)
  pub own : IsKeyOf j e

abbrev pub AllMayWait : Inputs → (tick : ℕ) → Contents → Type 0
AllMayWait i tick a = (j : Key) (e : Event) → waiting a j ≡ Some e → MayWait i tick j e

-- A key of the class of timers is that of an instance of its resource.
abbrev pub TimersAtHome : Inputs → Contents → Type 0
TimersAtHome i a = (j : Key) (e : Event) → waiting a j ≡ Some e → j.class ≡ 1 → (k : ℕ) × (k < length (system_of i).paths) × (is_timer_of j.resource k j ≡ true) × (e ≡ Timer k)

-- What waits may wait from a tick on, and its timers are those of instances, one at most of each.
pub record IsInOrder (i : Inputs) (tick : ℕ) (a : Contents) : Type 0 where
  pub waits : AllMayWait i tick a
  pub timed : IsTimed a
  pub home : TimersAtHome i a
