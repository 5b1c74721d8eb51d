-- The events outside the queue of the running tick (this project's profile).
use Rattle.std.specs.Prelude.{◌≡◌, ◌≢◌, ◌++◌, ℕ, Bool, false, List, None}
use Rattle.std.specs.Map.{lookup}
use Rattle.fb_types.specs.Keys.{same_key}
use Rattle.fb_types.specs.declared.key.Key.{Key}
use Rattle.fb_types.specs.declared.run.Event.{Event}
use Rattle.fb_agenda.specs.Lists.{AreSplit}
use Rattle.fb_agenda.specs.Moments.{IsQuiet}
use Rattle.fb_agenda.specs.declared.moment.Moment.{Moment}

-- the events, and for each instance the tick of its timer
pub record Pending : Type 0 where
  pub events : List (Key × Event)
  pub due : List ℕ

-- The keys of the timers rise and are those of timers, and none of the others is. If the others are not marked as
-- containing a local event, they contain none. No event is before this moment.
pub record AreKept (timers others : List (Key × Event)) (has_local : Bool) (moment : Moment) : Type 0 where
  pub split : AreSplit timers others
  pub only : (j : Key) → j.class ≢ 1 → lookup (same_key j) timers ≡ None
  pub untimed : (j : Key) → j.class ≡ 1 → lookup (same_key j) others ≡ None
  pub marked : has_local ≡ false → (j : Key) → j.class ≡ 3 → lookup (same_key j) others ≡ None
  pub quiet : IsQuiet moment (timers ++ others)
