-- All kinds of event blocks, and their interfaces one after another.
use Rattle.fb_types.proofs.Common.{◌≡◌, ℕ, ◌<◌, ◌+◌, Bool, true, List, [], ◌∷◌, ◌++◌, map, take, get_or, refl, sym, ◌∙◌, ap, slice_get, Some, option_map, list_all, take_more, map-append, slice_get-map, kind_index, ports_of_event_block, ArePortsOfKinds, EventKind, Restart, Split, Merge, Rendezvous, Permit, Select, Switch, Delay, Cycle, SetReset, DataLatch, RisingEdge, FallingEdge, CountUp, Ports}
use Rattle.fb_types.proofs.lemmas.lists.ByIndex.{element_of_index}
use Rattle.fb_types.proofs.lemmas.lists.ListTests.{passes_at}

abbrev pub kinds : List EventKind
kinds =
    Restart ∷ Split ∷ Merge ∷ Rendezvous ∷ Permit ∷ Select ∷ Switch ∷ Delay ∷ Cycle ∷ SetReset ∷ DataLatch ∷ RisingEdge ∷ FallingEdge ∷ CountUp ∷ []

-- each kind is at its index
pub kind_stands : (k : EventKind) → slice_get kinds (kind_index k) ≡ Some k
kind_stands Restart = refl
kind_stands Split = refl
kind_stands Merge = refl
kind_stands Rendezvous = refl
kind_stands Permit = refl
kind_stands Select = refl
kind_stands Switch = refl
kind_stands Delay = refl
kind_stands Cycle = refl
kind_stands SetReset = refl
kind_stands DataLatch = refl
kind_stands RisingEdge = refl
kind_stands FallingEdge = refl
kind_stands CountUp = refl

-- a test that all kinds in the list pass is passed by any kind
pub of_each : (test : EventKind → Bool) → list_all test kinds ≡ true → (k : EventKind) → test k ≡ true
of_each test passed k = passes_at test kinds k passed (element_of_index kinds (kind_index k) k (kind_stands k))

-- each kind's interface is at its index
pub kinds_stand : ArePortsOfKinds (map ports_of_event_block kinds)
kinds_stand k = slice_get-map ports_of_event_block kinds (kind_index k) ∙ ap (option_map ports_of_event_block) (kind_stands k)

pub ports_next :
    (n : ℕ) (all more : List Ports) (x : Ports) → n < 14 → x ≡ ports_of_event_block (get_or kinds n Restart)
    → all ≡ map ports_of_event_block (take n kinds) → more ≡ all ++ x ∷ [] → more ≡ map ports_of_event_block (take (n + 1) kinds)
ports_next n all more x h is so_far grown =
    grown
    ∙ (λ i. so_far i ++ is i ∷ [])
    ∙ sym (ap (map ports_of_event_block) (take_more kinds n Restart h) ∙ map-append ports_of_event_block (take n kinds) (get_or kinds n Restart ∷ []))

pub ports_all : (n : ℕ) (all : List Ports) → n ≡ 14 → all ≡ map ports_of_event_block (take n kinds) → ArePortsOfKinds all
ports_all n all e so_far k =
    ap (λ (ps : List Ports). slice_get ps (kind_index k)) (so_far ∙ ap (λ n. map ports_of_event_block (take n kinds)) e) ∙ kinds_stand k
