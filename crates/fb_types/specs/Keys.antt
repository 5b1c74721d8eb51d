-- Keys of events, their order, and maps from keys (this project's profile).
use Rattle.std.specs.Prelude.{◌≡◌, ℕ, ◌<◌, List, [], ◌∷◌, Bool, Option, Some, None, if◌then◌else◌}
use Rattle.std.specs.declared.cmp.Ordering.{Ordering}
use Rattle.std.specs.declared.cmp.Ordering.TheVariants.{Less}
use Rattle.std.specs.Ordering.{nat_cmp, ordering_then, is_eq}
use Rattle.fb_types.specs.declared.key.Key.{Key}

-- Keys are compared part by part: tick, resource, class, a and b.
abbrev pub key_cmp : Key → Key → Ordering
key_cmp j k =
    ordering_then (nat_cmp j.tick k.tick)
    (ordering_then (nat_cmp j.resource k.resource)
    (ordering_then (nat_cmp j.class k.class) (ordering_then (nat_cmp j.a k.a) (nat_cmp j.b k.b))))

abbrev pub Precedes : Key → Key → Type 0
Precedes j k = key_cmp j k ≡ Less

abbrev pub same_key : Key → Key → Bool
same_key j k = is_eq (key_cmp j k)

-- ---- The keys of the classes

abbrev pub stimulus_key : (tick resource row : ℕ) → Key
stimulus_key t r n = record { tick = t; resource = r; class = 0; a = n; b = 0 }

abbrev pub timer_key : (tick resource instance : ℕ) → Key
timer_key t r i = record { tick = t; resource = r; class = 1; a = i; b = 0 }

abbrev pub message_key : (tick resource link number : ℕ) → Key
message_key t r l n = record { tick = t; resource = r; class = 2; a = l; b = n }

abbrev pub local_key : (tick resource number : ℕ) → Key
local_key t r n = record { tick = t; resource = r; class = 3; a = n; b = 0 }

-- ---- Maps

-- A finite map from keys: the value at each key.
abbrev pub Map : Type 0 → Type 0
Map X = Key → Option X

abbrev pub no_keys : {X : Type 0} → Map X
no_keys j = None

-- the first if it is there, or the second
abbrev pub or_else : {X : Type 0} → Option X → Option X → Option X
or_else (Some x) other = Some x
or_else None other = other

-- what a list of pairs puts under a key: the last one counts
abbrev pub found : {X : Type 0} → Key → List (Key × X) → Option X
found k [] = None
found k (e ∷ es) = or_else (found k es) (if same_key e.0 k then Some e.1 else None)

abbrev pub with_all : {X : Type 0} → List (Key × X) → Map X → Map X
with_all es m j = or_else (found j es) (m j)

abbrev pub without : {X : Type 0} → Key → Map X → Map X
without k m j = if same_key k j then None else m j

-- A change of a map: at each key nothing, or its new value.
abbrev pub Change : Type 0 → Type 0
Change X = Key → Option (Option X)

abbrev pub no_change : {X : Type 0} → Change X
no_change j = None

abbrev pub changed_to : {X : Type 0} → Option (Option X) → Option X → Option X
changed_to None old = old
changed_to (Some new) old = new

-- No key has a tick below this one.
abbrev pub NoneBelow : {X : Type 0} → Map X → ℕ → Type 0
NoneBelow m t = (j : Key) → j.tick < t → m j ≡ None
