-- Where connections lead, and where they come from.
use Rattle.fb_system.proofs.lemmas.Common.{◌≡◌, ℕ, false, List, [], ◌∷◌, map, Option, Some, None, Contains, refl, sym, ◌∙◌, ap, subst, slice_get, option_map, filter, false_from_ne_true, same_Some, Name, Path, Port, Kind, ports_of, kind_at, network_at, parent, targets_of, source_of, NameTwice, OwnedNetwork, event_ins, event_outs, data_ins, data_outs, Library, Network, Ports, Plan, ConnectionEnd, NetworkNumbers, same_end, IsEndOf, IsWired, side}
use Rattle.fb_types.proofs.Common.{same_port, port_in, pairs_in, first_of, events_inside, data_inside}
use Rattle.fb_types.specs.declared.library.Connection.{Connection}
use Rattle.fb_types.proofs.lemmas.names.PathLaws.{same_port_is}
use Rattle.fb_check_names.specs.declared.numbers.NumberedConnection.{NumberedConnection}
use Rattle.fb_check_names.specs.Numbers.{both_ends, data_wire, end_number, event_wire}
use Rattle.fb_types.proofs.lemmas.lists.ByIndex.{element_of_index}
use Rattle.fb_system.specs.Wirings.{targets_in}
use Rattle.fb_system.specs.Networks.{composite_of, source_along, targets_along}
use Rattle.fb_types.proofs.lemmas.lists.Options.{and_then_parts, map_parts}
use Rattle.fb_system.proofs.lemmas.types.Differing.{flip, kind_apart}
use Rattle.fb_system.proofs.lemmas.networks.EndIndexes.{AreApart, at_boundary, at_component, end_there, ends_there}
use Rattle.fb_system.proofs.lemmas.lists.TwoLists.{Pairwise, alike, first_part_chosen, none_chosen, second_part_chosen}

-- ---- Sorts of ports whose names differ

pub event_outs_apart : (lib : Library) (plan : Plan) → ¬ (NameTwice lib plan) → AreApart lib event_outs event_ins
event_outs_apart lib plan once p k h = flip (event_ins (ports_of k)) (event_outs (ports_of k)) (kind_apart lib plan p k once h).events

pub data_ins_apart : (lib : Library) (plan : Plan) → ¬ (NameTwice lib plan) → AreApart lib data_ins data_outs
data_ins_apart lib plan once p k h = (kind_apart lib plan p k once h).variables

-- ---- Ends that are no end of connections inside, or around

name_among : (ns : List Name) (k : ℕ) (n : Name) → slice_get ns k ≡ Some n → Contains ns n
name_among ns k n h = element_of_index ns k n h

-- no boundary port of a network has the name of a port of the other direction
boundary_clash :
    (lib : Library) (p : Path) (component boundary : Ports → List Name) (w : ConnectionEnd) (q : Port) (k : Kind) → AreApart lib component boundary
    → kind_at lib q.at ≡ Some k → Contains (component (ports_of k)) q.name → q.at ≡ p → IsEndOf lib p component boundary w q → ⊥
boundary_clash lib p component boundary w q k apart kind named at is =
    let none : w.component ≡ None = at_boundary lib p q.at w.component is.there at in
    let same : is.kind ≡ k = same_Some is.kind k (sym is.is_kind ∙ kind) in
    let other : slice_get (boundary (ports_of k)) w.port ≡ Some q.name =
    ap (λ (k : Kind). slice_get (boundary (ports_of k)) w.port) (sym same)
    ∙ ap (λ (c : Option ℕ). slice_get (side c component boundary (ports_of is.kind)) w.port) (sym none) ∙ is.name in
    (apart q.at k kind).apart q.name named (name_among (boundary (ports_of k)) w.port q.name other)

component_clash :
    (lib : Library) (p : Path) (component boundary : Ports → List Name) (w : ConnectionEnd) (q : Port) (k : Kind) (n : Name) → AreApart lib component boundary
    → kind_at lib q.at ≡ Some k → Contains (boundary (ports_of k)) q.name → q.at ≡ n ∷ p → IsEndOf lib p component boundary w q → ⊥
component_clash lib p component boundary w q k n apart kind named at is =
    let some = at_component lib p q.at n w.component is.there at in
    let same : is.kind ≡ k = same_Some is.kind k (sym is.is_kind ∙ kind) in
    let other : slice_get (component (ports_of k)) w.port ≡ Some q.name =
    ap (λ (k : Kind). slice_get (component (ports_of k)) w.port) (sym same)
    ∙ ap (λ (c : Option ℕ). slice_get (side c component boundary (ports_of is.kind)) w.port) (sym some.1) ∙ is.name in
    (apart q.at k kind).apart q.name (name_among (component (ports_of k)) w.port q.name other) named

-- ---- Connections and their wires

both_parts : (a b : Option ConnectionEnd) (w : NumberedConnection) → both_ends a b ≡ Some w → (a ≡ Some w.from) × (b ≡ Some w.to)
both_parts a b w h =
    let x = and_then_parts (λ (x : ConnectionEnd). option_map (λ (y : ConnectionEnd). record { from = x; to = y }) b) a w h in
    let y = map_parts (λ (y : ConnectionEnd). record { from = x.0; to = y }) b w x.2 in
    (x.1 ∙ ap (λ (w : NumberedConnection). Some w.from) y.2, y.1 ∙ ap (λ (w : NumberedConnection). Some w.to) y.2)

abbrev pair_in : Path → Connection → Port × Port
pair_in p c = (port_in p c.from, port_in p c.to)

event_ends :
    (lib : Library) (p : Path) (net : Network) (c : Connection) (w : NumberedConnection) → network_at lib p ≡ Some net → event_wire lib (composite_of (kind_at lib p), net) c ≡ Some w
    → IsEndOf lib p event_outs event_ins w.from (port_in p c.from) × IsEndOf lib p event_ins event_outs w.to (port_in p c.to)
event_ends lib p net c w is h =
    let n : OwnedNetwork = (composite_of (kind_at lib p), net) in
    let ends = both_parts (end_number lib n event_outs event_ins c.from) (end_number lib n event_ins event_outs c.to) w h in
    (end_there lib p net event_outs event_ins c.from w.from is ends.0, end_there lib p net event_ins event_outs c.to w.to is ends.1)

data_ends :
    (lib : Library) (p : Path) (net : Network) (c : Connection) (w : NumberedConnection) → network_at lib p ≡ Some net → data_wire lib (composite_of (kind_at lib p), net) c ≡ Some w
    → IsEndOf lib p data_outs data_ins w.from (port_in p c.from) × IsEndOf lib p data_ins data_outs w.to (port_in p c.to)
data_ends lib p net c w is h =
    let n : OwnedNetwork = (composite_of (kind_at lib p), net) in
    let ends = both_parts (end_number lib n data_outs data_ins c.from) (end_number lib n data_ins data_outs c.to) w h in
    (end_there lib p net data_outs data_ins c.from w.from is ends.0, end_there lib p net data_ins data_outs c.to w.to is ends.1)

events_of : (lib : Library) (p : Path) (net : Network) → network_at lib p ≡ Some net → events_inside lib p ≡ pairs_in p net.event_connections
events_of lib p net is = ap (λ (o : Option Network). elim o as (λ _. List (Port × Port)) [ None ↦ [] | Some net ↦ pairs_in p net.event_connections ]) is

data_of : (lib : Library) (p : Path) (net : Network) → network_at lib p ≡ Some net → data_inside lib p ≡ pairs_in p net.data_connections
data_of lib p net is = ap (λ (o : Option Network). elim o as (λ _. List (Port × Port)) [ None ↦ [] | Some net ↦ pairs_in p net.data_connections ]) is

pub no_events : (lib : Library) (p : Path) → network_at lib p ≡ None → events_inside lib p ≡ []
no_events lib p is = ap (λ (o : Option Network). elim o as (λ _. List (Port × Port)) [ None ↦ [] | Some net ↦ pairs_in p net.event_connections ]) is

pub no_data : (lib : Library) (p : Path) → network_at lib p ≡ None → data_inside lib p ≡ []
no_data lib p is = ap (λ (o : Option Network). elim o as (λ _. List (Port × Port)) [ None ↦ [] | Some net ↦ pairs_in p net.data_connections ]) is

-- The targets by numbers represent those by names, one by one.
pub targets_there :
    (lib : Library) (plan : Plan) (p : Path) (x : NetworkNumbers) (e : ConnectionEnd) (q : Port) → ¬ (NameTwice lib plan) → IsWired lib p x
    → IsEndOf lib p event_outs event_ins e q
    → Pairwise (IsEndOf lib p event_ins event_outs) (targets_in x e) (targets_along (events_inside lib p) q)
targets_there lib plan p x e q once is key =
    let net = is.network in
    subst (λ (cs : List (Port × Port)). Pairwise (IsEndOf lib p event_ins event_outs) (targets_in x e) (targets_along cs q)) (sym (events_of lib p net is.is_network))
    (alike (event_wire lib (composite_of (kind_at lib p), net)) (IsEndOf lib p event_ins event_outs) (λ w. same_end w.from e) (λ w. w.to) (pair_in p)
    (λ c. same_port c.0 q) (λ c. c.1)
    (λ c w h.
    let ends = event_ends lib p net c w is.is_network h in
    (ends_there lib p net event_outs event_ins w.from e (port_in p c.from) q is.is_network is.once (event_outs_apart lib plan once) ends.0 key, ends.1))
    net.event_connections x.event_wires is.numbers.event_wires)

-- the sources of data, likewise
pub sources_there :
    (lib : Library) (plan : Plan) (p : Path) (x : NetworkNumbers) (e : ConnectionEnd) (q : Port) → ¬ (NameTwice lib plan) → IsWired lib p x
    → IsEndOf lib p data_ins data_outs e q
    → Pairwise (IsEndOf lib p data_outs data_ins) (map (λ w. w.from) (filter (λ w. same_end w.to e) x.data_wires)) (map (λ c. c.0) (filter (λ c. same_port c.1 q) (data_inside lib p)))
sources_there lib plan p x e q once is key =
    let net = is.network in
    subst (λ (cs : List (Port × Port)). Pairwise (IsEndOf lib p data_outs data_ins) (map (λ w. w.from) (filter (λ w. same_end w.to e) x.data_wires)) (map (λ c. c.0) (filter (λ c. same_port c.1 q) cs))) (sym (data_of lib p net is.is_network))
    (alike (data_wire lib (composite_of (kind_at lib p), net)) (IsEndOf lib p data_outs data_ins) (λ w. same_end w.to e) (λ w. w.from) (pair_in p)
    (λ c. same_port c.1 q) (λ c. c.0)
    (λ c w h.
    let ends = data_ends lib p net c w is.is_network h in
    (ends_there lib p net data_ins data_outs w.to e (port_in p c.to) q is.is_network is.once (data_ins_apart lib plan once) ends.1 key, ends.0))
    net.data_connections x.data_wires is.numbers.data_wires)

-- ---- No connections

no_end : (lib : Library) (p : Path) (component boundary : Ports → List Name) (w : ConnectionEnd) (r q : Port) → ((w : ConnectionEnd) → IsEndOf lib p component boundary w q → ⊥)
    → IsEndOf lib p component boundary w r → same_port r q ≡ false
no_end lib p component boundary w r q none is =
    false_from_ne_true (same_port r q) (λ t. none w (subst (λ (r : Port). IsEndOf lib p component boundary w r) (same_port_is r q t) is))

-- The networks that the tables have at a path, if there is one.
abbrev pub MayBeWired : Library → Path → Type 0
MayBeWired lib p = (net : Network) → network_at lib p ≡ Some net → (x : NetworkNumbers) × IsWired lib p x

pub no_targets :
    (lib : Library) (p : Path) (q : Port) → MayBeWired lib p → ((w : ConnectionEnd) → IsEndOf lib p event_outs event_ins w q → ⊥) → targets_along (events_inside lib p) q ≡ []
no_targets lib p q wired none =
    elim (network_at lib p) as (λ o. network_at lib p ≡ o → targets_along (events_inside lib p) q ≡ []) [
      | None ↦ λ is. ap (λ (cs : List (Port × Port)). targets_along cs q) (no_events lib p is)
      | Some net ↦ λ is.
          let x = wired net is in
          let same : x.1.network ≡ net = same_Some x.1.network net (sym x.1.is_network ∙ is) in
          ap (λ (cs : List (Port × Port)). targets_along cs q) (events_of lib p x.1.network x.1.is_network)
          ∙ none_chosen (event_wire lib (composite_of (kind_at lib p), x.1.network)) (pair_in p) (λ c. same_port c.0 q) (λ c. c.1)
          (λ c w h. no_end lib p event_outs event_ins w.from (port_in p c.from) q none (event_ends lib p x.1.network c w x.1.is_network h).0)
          x.1.network.event_connections x.0.event_wires x.1.numbers.event_wires
    ] refl

pub no_sources :
    (lib : Library) (p : Path) (q : Port) → MayBeWired lib p → ((w : ConnectionEnd) → IsEndOf lib p data_ins data_outs w q → ⊥)
    → map (λ c. c.0) (filter (λ c. same_port c.1 q) (data_inside lib p)) ≡ []
no_sources lib p q wired none =
    elim (network_at lib p) as (λ o. network_at lib p ≡ o → map (λ c. c.0) (filter (λ c. same_port c.1 q) (data_inside lib p)) ≡ []) [
      | None ↦ λ is. ap (λ (cs : List (Port × Port)). map (λ c. c.0) (filter (λ c. same_port c.1 q) cs)) (no_data lib p is)
      | Some net ↦ λ is.
          let x = wired net is in
          ap (λ (cs : List (Port × Port)). map (λ c. c.0) (filter (λ c. same_port c.1 q) cs)) (data_of lib p x.1.network x.1.is_network)
          ∙ none_chosen (data_wire lib (composite_of (kind_at lib p), x.1.network)) (pair_in p) (λ c. same_port c.1 q) (λ c. c.0)
          (λ c w h. no_end lib p data_ins data_outs w.to (port_in p c.to) q none (data_ends lib p x.1.network c w x.1.is_network h).1)
          x.1.network.data_connections x.0.data_wires x.1.numbers.data_wires
    ] refl

-- ---- All connections at an instance

-- an event output leads to what is around its instance
pub output_targets :
    (lib : Library) (plan : Plan) (q : Port) (k : Kind) → ¬ (NameTwice lib plan) → MayBeWired lib q.at → kind_at lib q.at ≡ Some k
    → Contains (event_outs (ports_of k)) q.name → targets_of lib q ≡ targets_along (events_inside lib (parent q.at)) q
output_targets lib plan q k once wired kind named =
    first_part_chosen (λ c. same_port c.0 q) (λ c. c.1) (events_inside lib (parent q.at)) (events_inside lib q.at)
    (no_targets lib q.at q wired (λ w is. boundary_clash lib q.at event_outs event_ins w q k (event_outs_apart lib plan once) kind named refl is))

-- an event input leads to what is inside
pub input_targets :
    (lib : Library) (plan : Plan) (q : Port) (k : Kind) (n : Name) → ¬ (NameTwice lib plan) → MayBeWired lib (parent q.at) → kind_at lib q.at ≡ Some k
    → Contains (event_ins (ports_of k)) q.name → q.at ≡ n ∷ parent q.at → targets_of lib q ≡ targets_along (events_inside lib q.at) q
input_targets lib plan q k n once wired kind named at =
    second_part_chosen (λ c. same_port c.0 q) (λ c. c.1) (events_inside lib (parent q.at)) (events_inside lib q.at)
    (no_targets lib (parent q.at) q wired (λ w is. component_clash lib (parent q.at) event_outs event_ins w q k n (event_outs_apart lib plan once) kind named at is))

-- a data input comes from what is around
pub input_source :
    (lib : Library) (plan : Plan) (q : Port) (k : Kind) → ¬ (NameTwice lib plan) → MayBeWired lib q.at → kind_at lib q.at ≡ Some k
    → Contains (data_ins (ports_of k)) q.name → source_of lib q ≡ source_along (data_inside lib (parent q.at)) q
input_source lib plan q k once wired kind named =
    ap first_of
    (first_part_chosen (λ c. same_port c.1 q) (λ c. c.0) (data_inside lib (parent q.at)) (data_inside lib q.at)
    (no_sources lib q.at q wired (λ w is. boundary_clash lib q.at data_ins data_outs w q k (data_ins_apart lib plan once) kind named refl is)))

-- a data output comes from what is inside
pub output_source :
    (lib : Library) (plan : Plan) (q : Port) (k : Kind) (n : Name) → ¬ (NameTwice lib plan) → MayBeWired lib (parent q.at) → kind_at lib q.at ≡ Some k
    → Contains (data_outs (ports_of k)) q.name → q.at ≡ n ∷ parent q.at → source_of lib q ≡ source_along (data_inside lib q.at) q
output_source lib plan q k n once wired kind named at =
    ap first_of
    (second_part_chosen (λ c. same_port c.1 q) (λ c. c.0) (data_inside lib (parent q.at)) (data_inside lib q.at)
    (no_sources lib (parent q.at) q wired (λ w is. component_clash lib (parent q.at) data_ins data_outs w q k n (data_ins_apart lib plan once) kind named at is)))
