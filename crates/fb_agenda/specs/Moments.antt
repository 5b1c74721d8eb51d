-- The tick and the resource of keys, and where events wait by these (this project's profile).
use Rattle.std.specs.Prelude.{◌≡◌, ◌<◌, ◌≤◌, List, None}
use Rattle.std.specs.Map.{lookup}
use Rattle.fb_types.specs.Keys.{same_key}
use Rattle.fb_types.specs.declared.key.Key.{Key}
use Rattle.fb_types.specs.declared.run.Event.{Event}
use Rattle.fb_agenda.specs.Agendas.{IsFirst}
use Rattle.fb_agenda.specs.declared.moment.Moment.{Moment}

-- The first moment comes before the second.
pub record IsSooner (m n : Moment) : Type 0 where
  pub tick : m.tick ≤ n.tick
  pub resource : m.tick ≡ n.tick → m.resource < n.resource

-- The first moment does not come after the second.
pub record IsNoLater (m n : Moment) : Type 0 where
  pub tick : m.tick ≤ n.tick
  pub resource : m.tick ≡ n.tick → m.resource ≤ n.resource

-- the moment of a key
abbrev pub moment_of : Key → Moment
moment_of k = record { tick = k.tick; resource = k.resource }

-- No event waits before this moment.
pub record IsQuiet (m : Moment) (es : List (Key × Event)) : Type 0 where
  pub below : (j : Key) → j.tick < m.tick → lookup (same_key j) es ≡ None
  pub before : (j : Key) → j.tick ≡ m.tick → j.resource < m.resource → lookup (same_key j) es ≡ None

-- No event waits at this moment or before.
pub record IsPast (m : Moment) (es : List (Key × Event)) : Type 0 where
  pub below : (j : Key) → j.tick < m.tick → lookup (same_key j) es ≡ None
  pub up_to : (j : Key) → j.tick ≡ m.tick → j.resource ≤ m.resource → lookup (same_key j) es ≡ None

-- It is the moment of the first event.
pub record IsMomentOf (es : List (Key × Event)) (m : Moment) : Type 0 where
  pub key : Key
  pub first : IsFirst es key
  pub tick : m.tick ≡ key.tick
  pub resource : m.resource ≡ key.resource
