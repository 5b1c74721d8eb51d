-- Messages of several senders, for each receiver those for it, in the order of their keys (this project's profile).
use Rattle.std.specs.Prelude.{◌≡◌, ℕ, ◌==◌, Bool, List, [], ◌∷◌, map, flat_map, Vec, Some, slice_get}
use Rattle.std.specs.List.{filter}
use Rattle.std.specs.List.Sorted.{IsPermutation}
use Rattle.std.specs.declared.alloc.Global.{Global}
use Rattle.fb_types.specs.Keys.{Precedes, found}
use Rattle.fb_types.specs.Machines.{Each}
use Rattle.fb_types.specs.Systems.{System}
use Rattle.fb_types.specs.declared.key.Key.{Key}
use Rattle.fb_types.specs.declared.run.Message.{Message}
use Rattle.fb_link.specs.Messages.{key_of, receiver_of}

-- whether a message is for a resource
abbrev pub goes_to : System → (resource : ℕ) → Message → Bool
goes_to sys r m = receiver_of sys m == r

-- messages, each under its key
abbrev pub keyed : System → List Message → List (Key × Message)
keyed sys ms = map (λ m. (key_of sys m, m)) ms

-- along the list no key precedes an earlier one
abbrev pub KeysRise : {X : Type 0} → (X → Key) → List X → Type 0
KeysRise key [] = Unit {0}
KeysRise key (x ∷ xs) = Each (λ y. Precedes (key y) (key x) → ⊥) xs × KeysRise key xs

-- the messages of several outboxes, one outbox after another
abbrev pub all_of : List (Vec Message Global) → List Message
all_of boxes = flat_map (λ box. box.items) boxes

-- Of all messages, those for a resource, each as often as it occurs, sorted by key. Of several with the same key the
-- last counts in both lists.
pub record AreFor (sys : System) (r : ℕ) (all ms : List Message) : Type 0 where
  pub those : IsPermutation (filter (goes_to sys r) all) ms
  pub order : KeysRise (key_of sys) ms
  pub last : (k : Key) → k.resource ≡ r → found k (keyed sys ms) ≡ found k (keyed sys all)

-- These messages sorted by key, if they are those for one resource.
abbrev pub AreSorted : List Message → List Message → Type 0
AreSorted xs ys = (sys : System) (r : ℕ) (all : List Message) → xs ≡ filter (goes_to sys r) all → AreFor sys r all ys

-- Each list has the messages for the resource with its index, in the order in which they came.
abbrev pub AreDealt : System → (all : List Message) → List (Vec Message Global) → Type 0
AreDealt sys all boxes = (r : ℕ) (box : Vec Message Global) → slice_get boxes r ≡ Some box → box.items ≡ filter (goes_to sys r) all
