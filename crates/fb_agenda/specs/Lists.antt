-- Lists of events under their keys, and how they change (this project's profile).
use Rattle.std.specs.Prelude.{◌≡◌, ◌≢◌, ◌<◌, ◌≤◌, ℕ, List, [], Option, None, Some, IsSome, IfSome, IfNone, if◌then◌else◌, length, slice_index_or}
use Rattle.std.specs.Map.{lookup}
use Rattle.fb_types.specs.Keys.{Precedes, same_key}
use Rattle.fb_types.specs.declared.key.Key.{Key}
use Rattle.fb_types.specs.declared.run.Event.{Event}
use Rattle.fb_agenda.specs.Agendas.{AreRising, IsFirst}

-- new has w at the key, and at each other key what old has
abbrev pub Sets : (k : Key) (w : Option Event) (old new : List (Key × Event)) → Type 0
Sets k w old new = (j : Key) → lookup (same_key j) new ≡ (if same_key k j then w else lookup (same_key j) old)

-- The keys of the first list rise, and none of them is in the second.
pub record AreSplit (these those : List (Key × Event)) : Type 0 where
  pub rising : AreRising these
  pub apart : (j : Key) → IsSome (lookup (same_key j) these) → lookup (same_key j) those ≡ None

-- No event of the second comes before the first of the first, and where the first has none, neither has the second.
pub record Leads (these those : List (Key × Event)) : Type 0 where
  pub none_before : (k : Key) → IsFirst these k → (j : Key) → Precedes j k → lookup (same_key j) those ≡ None
  pub none : these ≡ [] → those ≡ []

-- This is the index of the key.
pub record IsIndexOf (es : List (Key × Event)) (k : Key) (i : ℕ) : Type 0 where
  pub within : i < length es
  pub there : (d : Key × Event) → (slice_index_or es i d).0 ≡ k

-- The first event, if there is one, is not below this tick.
abbrev pub BeginsAt : ℕ → List (Key × Event) → Type 0
BeginsAt t es = es ≢ [] → (k : Key) × (t ≤ k.tick) × IsFirst es k

-- The first event was taken, if any was. Else the list is as it was.
pub record IsPopped (old new : List (Key × Event)) (taken : Option (Key × Event)) : Type 0 where
  pub value : IfSome taken (λ r. lookup (same_key r.0) old ≡ Some r.1)
  pub none_before : IfSome taken (λ r. (j : Key) → Precedes j r.0 → lookup (same_key j) old ≡ None)
  pub left : IfSome taken (λ r. Sets r.0 None old new)
  pub kept : IfNone taken (new ≡ old)
