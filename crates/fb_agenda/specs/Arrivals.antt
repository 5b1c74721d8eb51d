-- Messages that are put on an agenda (this project's profile).
use Rattle.std.specs.Prelude.{◌≡◌, ◌++◌, ◌∷◌, ℕ, List, [], All, None, IsSome, map}
use Rattle.std.specs.Map.{lookup}
use Rattle.fb_types.specs.Keys.{found, message_key, same_key}
use Rattle.fb_types.specs.declared.key.Key.{Key}
use Rattle.fb_types.specs.declared.run.Message.{Message}
use Rattle.fb_agenda.specs.Agendas.{Contents, waiting}
use Rattle.fb_types.specs.declared.run.Event.{Event}
use Rattle.fb_types.specs.declared.run.Event.TheVariants.{Arrival}

-- the key under which a message waits at its receiver, and what it is there
abbrev pub arrival_at : (receiver : ℕ) → Message → Key × Event
arrival_at r m = (message_key m.arrives r m.link m.number, Arrival m)

abbrev pub arrivals_at : (receiver : ℕ) → List Message → List (Key × Event)
arrivals_at r ms = map (arrival_at r) ms

-- Nothing waits under the keys of the messages.
abbrev pub AreNew : (receiver : ℕ) → List Message → Contents → Type 0
AreNew r ms c = All (λ m. waiting c (arrival_at r m).0 ≡ None) ms

-- ---- Lists of events, and the keys of others

-- Under keys that these do not have, nothing changes.
abbrev pub KeepsOthers : (those old new : List (Key × Event)) → Type 0
KeepsOthers es old new = (j : Key) → found j es ≡ None → lookup (same_key j) new ≡ lookup (same_key j) old

-- There is an event under each key of these.
abbrev pub HasKeys : (those : List (Key × Event)) → List (Key × Event) → Type 0
HasKeys es new = (j : Key) → IsSome (found j es) → IsSome (lookup (same_key j) new)

-- There is no event under any key of these.
abbrev pub LacksKeys : (those : List (Key × Event)) → List (Key × Event) → Type 0
LacksKeys es new = (j : Key) → IsSome (found j es) → lookup (same_key j) new ≡ None

-- ---- The last message of a list

-- The last message leaves its list, and this holds of it.
abbrev pub MovesLast : (old new : List Message) → (Message → Type 0) → Type 0
MovesLast old new P = (m : Message) × (old ≡ new ++ m ∷ []) × P m
