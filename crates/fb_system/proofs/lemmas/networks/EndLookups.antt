-- Lookups at an end of a connection.
use Rattle.fb_system.proofs.lemmas.Common.{◌≡◌, ℕ, ◌+◌, ◌-◌, ◌<◌, ◌≤◌, Bool, true, false, List, [], ◌∷◌, map, length, get_or, Option, Some, None, refl, sym, ◌∙◌, ap, subst, arith, slice_get, option_map, option_and_then, unwrap_or, IsTrue, ◌↔◌, filter, length-map, same_Some, slice_get_within, slice_get-get_or, slice_get_read, Name, Path, Port, Kind, Basic, Event, Composite, ports, ports_of, kind_of, kind_at, kind_of_instance, type_named, inside, instance_at, network_at, network_of, paths_of, NameTwice, event_ins, event_outs, data_ins, data_outs, Library, BlockType, CompositeType, Instance, Network, Ports, Plan, ConnectionEnd, NetworkNumbers, TypeNumber, kind_of_number, type_number, same_end, AreComponents, path_of, port_of, variable_of, AreNarrow, IsEndOf, IsThere, IsWired, side}
use Rattle.fb_types.proofs.Common.{◌^◌, not, is_some, nat_lt, lt-ltb, ltb-true, slice_get_past, same_port, IsNarrow, events_inside, data_inside}
use Rattle.std.specs.Prelude.{is_none}
use Rattle.fb_check_names.specs.declared.numbers.TypeNumber.TheVariants as number
use Rattle.fb_check_names.proofs.lemmas.numbers.Lookups.{type_named-number}
use Rattle.fb_system.specs.Wirings.{source_in, targets_in}
use Rattle.fb_system.specs.Netlists.{IsCompositeHere, IsPort, IsVariable, ports_here}
use Rattle.fb_system.specs.Networks.{source_along, targets_along}
use Rattle.fb_system.proofs.lemmas.networks.Leading.{sources_there, targets_there}
use Rattle.fb_system.proofs.lemmas.lists.TwoLists.{first_pair, no_first, none_at, pair_at, same_length}
use Rattle.fb_types.proofs.lemmas.lists.ByIndex.{all_at}
use Rattle.fb_types.proofs.lemmas.events.EventCounts.{event_block_narrow}
use Rattle.fb_system.proofs.lemmas.networks.Wired.{component_path, component_within, number_within}

-- ---- Ports of 32 bits

number_narrow : (lib : Library) (t : TypeNumber) (k : Kind) → AreNarrow lib.blocks → kind_of_number lib t ≡ Some k → IsNarrow (ports_of k)
number_narrow lib (number.Event e) k narrow h =
    let P : Kind → Type 0 = λ k. IsNarrow (ports_of k) in subst P (same_Some (Event e) k h) (event_block_narrow e)
number_narrow lib (number.Declared t) k narrow h =
    elim (slice_get lib.blocks t) as (λ o. slice_get lib.blocks t ≡ o → option_map kind_of o ≡ Some k → IsNarrow (ports_of k)) [
      | None ↦ λ e g. absurd (cc)
      | Some b ↦ λ e g.
          let P : Kind → Type 0 = λ k. IsNarrow (ports_of k) in
          subst P (same_Some (kind_of b) k g) (all_at (λ (b : BlockType). IsNarrow (ports_of (kind_of b))) lib.blocks t b narrow e)
    ] refl h

type_narrow : (lib : Library) (n : Name) (k : Kind) → AreNarrow lib.blocks → type_named lib n ≡ Some k → IsNarrow (ports_of k)
type_narrow lib n k narrow h =
    elim (type_number lib n) as (λ o. option_and_then (kind_of_number lib) o ≡ Some k → IsNarrow (ports_of k)) [
      | None ↦ λ g. absurd (cc)
      | Some t ↦ λ g. number_narrow lib t k narrow g
    ] (sym (type_named-number lib n) ∙ h)

kind_narrow : (lib : Library) (p : Path) (k : Kind) → AreNarrow lib.blocks → kind_at lib p ≡ Some k → IsNarrow (ports_of k)
kind_narrow lib p k narrow h =
    elim (instance_at lib p) as (λ o. option_and_then (kind_of_instance lib) o ≡ Some k → IsNarrow (ports_of k)) [
      | None ↦ λ g. absurd (cc)
      | Some i ↦ λ g. type_narrow lib i.block_type k narrow g
    ] h

-- ---- Targets and indexes of variables

here : (lib : Library) (m : ℕ) (a : Path) (k : Kind) → path_of lib m ≡ a → kind_at lib a ≡ Some k → ports_here lib m ≡ ports_of k
here lib m a k at kind =
    ap (λ (o : Option Kind). elim o as (λ _. Ports) [ None ↦ ports [] [] [] [] | Some k ↦ ports_of k ]) (ap (kind_at lib) at ∙ kind)

-- the lengths of the names of a kind, at a component and at the boundary
within_names : (ns : List Name) (k n : ℕ) (q : Name) → slice_get ns k ≡ Some q → length ns ≡ n → k < n
within_names ns k n q h e = let w : k < length ns = slice_get_within ns k q h in omega (arith, w, e)

pub target_small : (lib : Library) (p : Path) (e : ConnectionEnd) (q : Port) → AreNarrow lib.blocks → IsEndOf lib p event_ins event_outs e q → e.port < 2 ^ 32
target_small lib p e q narrow is =
    let n = kind_narrow lib q.at is.kind narrow is.is_kind in
    let ps = ports_of is.kind in
    elim e.component as (λ c. slice_get (side c event_ins event_outs ps) e.port ≡ Some q.name → e.port < 2 ^ 32) [
      | None ↦ λ h. let w = within_names (event_outs ps) e.port (length ps.event_outputs) q.name h (length-map ps.event_outputs (λ (x : _). x.name)) in let l = n.event_outputs in omega (arith, w, l)
      | Some j ↦ λ h. let w = within_names (event_ins ps) e.port (length ps.event_inputs) q.name h (length-map ps.event_inputs (λ (x : _). x.name)) in let l = n.event_inputs in omega (arith, w, l)
    ] is.name

pub index_small : (lib : Library) (p : Path) (e : ConnectionEnd) (q : Port) → AreNarrow lib.blocks → IsEndOf lib p data_outs data_ins e q → e.port < 2 ^ 32
index_small lib p e q narrow is =
    let n = kind_narrow lib q.at is.kind narrow is.is_kind in
    let ps = ports_of is.kind in
    elim e.component as (λ c. slice_get (side c data_outs data_ins ps) e.port ≡ Some q.name → e.port < 2 ^ 32) [
      | None ↦ λ h. let w = within_names (data_ins ps) e.port (length ps.inputs) q.name h (length-map ps.inputs (λ (x : _). x.name)) in let l = n.inputs in omega (arith, w, l)
      | Some j ↦ λ h. let w = within_names (data_outs ps) e.port (length ps.outputs) q.name h (length-map ps.outputs (λ (x : _). x.name)) in let l = n.outputs in omega (arith, w, l)
    ] is.name

-- the port of a name at an index
abbrev named_at : Path → List Name → ℕ → Port
named_at a ns k = record { at = a; name = unwrap_or (slice_get ns k) [] }

port_named : (lib : Library) (m k : ℕ) (q : Port) (ns : List Name) → path_of lib m ≡ q.at → slice_get ns k ≡ Some q.name → named_at (path_of lib m) ns k ≡ q
port_named lib m k q ns at name =
    let n : unwrap_or (slice_get ns k) [] ≡ q.name = ap (λ (o : Option Name). unwrap_or o []) name in
    λ i. record { at = at i; name = n i }

pub target_is :
    (lib : Library) (p : Path) (e : ConnectionEnd) (q : Port) (m : ℕ) (b : Bool) → path_of lib m ≡ q.at → b ≡ is_none e.component → IsEndOf lib p event_ins event_outs e q
    → port_of lib (record { instance = m; event = e.port; is_output = b }) ≡ q
target_is lib p e q m b at is_b is =
    let ps = here lib m q.at is.kind at is.is_kind in
    let Q : Bool → Type 0 = λ b. port_of lib (record { instance = m; event = e.port; is_output = b }) ≡ q in
    elim e.component as (λ c. b ≡ is_none c → slice_get (side c event_ins event_outs (ports_of is.kind)) e.port ≡ Some q.name → Q b) [
      | None ↦ λ f h.
          subst Q (sym f)
          (ap (λ (p : Ports). named_at (path_of lib m) (event_outs p) e.port) ps ∙ port_named lib m e.port q (event_outs (ports_of is.kind)) at h)
      | Some j ↦ λ f h.
          subst Q (sym f)
          (ap (λ (p : Ports). named_at (path_of lib m) (event_ins p) e.port) ps ∙ port_named lib m e.port q (event_ins (ports_of is.kind)) at h)
    ] is_b is.name

pub target_within :
    (lib : Library) (p : Path) (e : ConnectionEnd) (q : Port) (m : ℕ) (b : Bool) → path_of lib m ≡ q.at → m < length (paths_of lib) → b ≡ is_none e.component
    → IsEndOf lib p event_ins event_outs e q → IsPort lib (record { instance = m; event = e.port; is_output = b })
target_within lib p e q m b at within is_b is =
    let ps = here lib m q.at is.kind at is.is_kind in
    let Q : Bool → Type 0 = λ b. IsPort lib (record { instance = m; event = e.port; is_output = b }) in
    elim e.component as (λ c. b ≡ is_none c → slice_get (side c event_ins event_outs (ports_of is.kind)) e.port ≡ Some q.name → Q b) [
      | None ↦ λ f h.
          subst Q (sym f)
          (record {
            instance = within;
            event = subst (λ (p : Ports). e.port < length p.event_outputs) (sym ps)
                (within_names (event_outs (ports_of is.kind)) e.port (length (ports_of is.kind).event_outputs) q.name h (length-map (ports_of is.kind).event_outputs (λ (x : _). x.name)));
          })
      | Some j ↦ λ f h.
          subst Q (sym f)
          (record {
            instance = within;
            event = subst (λ (p : Ports). e.port < length p.event_inputs) (sym ps)
                (within_names (event_ins (ports_of is.kind)) e.port (length (ports_of is.kind).event_inputs) q.name h (length-map (ports_of is.kind).event_inputs (λ (x : _). x.name)));
          })
    ] is_b is.name

pub index_is :
    (lib : Library) (p : Path) (e : ConnectionEnd) (q : Port) (m : ℕ) (b : Bool) → path_of lib m ≡ q.at → b ≡ is_some e.component → IsEndOf lib p data_outs data_ins e q
    → variable_of lib (record { instance = m; variable = e.port; is_output = b }) ≡ q
index_is lib p e q m b at is_b is =
    let ps = here lib m q.at is.kind at is.is_kind in
    let Q : Bool → Type 0 = λ b. variable_of lib (record { instance = m; variable = e.port; is_output = b }) ≡ q in
    elim e.component as (λ c. b ≡ is_some c → slice_get (side c data_outs data_ins (ports_of is.kind)) e.port ≡ Some q.name → Q b) [
      | None ↦ λ f h.
          subst Q (sym f)
          (ap (λ (p : Ports). named_at (path_of lib m) (data_ins p) e.port) ps ∙ port_named lib m e.port q (data_ins (ports_of is.kind)) at h)
      | Some j ↦ λ f h.
          subst Q (sym f)
          (ap (λ (p : Ports). named_at (path_of lib m) (data_outs p) e.port) ps ∙ port_named lib m e.port q (data_outs (ports_of is.kind)) at h)
    ] is_b is.name

pub index_within :
    (lib : Library) (p : Path) (e : ConnectionEnd) (q : Port) (m : ℕ) (b : Bool) → path_of lib m ≡ q.at → m < length (paths_of lib) → b ≡ is_some e.component
    → IsEndOf lib p data_outs data_ins e q → IsVariable lib (record { instance = m; variable = e.port; is_output = b })
index_within lib p e q m b at within is_b is =
    let ps = here lib m q.at is.kind at is.is_kind in
    let Q : Bool → Type 0 = λ b. IsVariable lib (record { instance = m; variable = e.port; is_output = b }) in
    elim e.component as (λ c. b ≡ is_some c → slice_get (side c data_outs data_ins (ports_of is.kind)) e.port ≡ Some q.name → Q b) [
      | None ↦ λ f h.
          subst Q (sym f)
          (record {
            instance = within;
            variable = subst (λ (p : Ports). e.port < length p.inputs) (sym ps)
                (within_names (data_ins (ports_of is.kind)) e.port (length (ports_of is.kind).inputs) q.name h (length-map (ports_of is.kind).inputs (λ (x : _). x.name)));
          })
      | Some j ↦ λ f h.
          subst Q (sym f)
          (record {
            instance = within;
            variable = subst (λ (p : Ports). e.port < length p.outputs) (sym ps)
                (within_names (data_outs (ports_of is.kind)) e.port (length (ports_of is.kind).outputs) q.name h (length-map (ports_of is.kind).outputs (λ (x : _). x.name)));
          })
    ] is_b is.name

-- ---- Boundaries are those of composites

composite_inside :
    (lib : Library) (o : Option Instance) (net : Network) (k : Kind) → option_and_then (inside lib) o ≡ Some net → option_and_then (kind_of_instance lib) o ≡ Some k
    → (t : CompositeType) × (option_and_then (kind_of_instance lib) o ≡ Some (Composite t))
composite_inside lib None net k h kind = absurd (cc)
composite_inside lib (Some i) net k h kind =
    elim (kind_of_instance lib i) as (λ o. option_and_then network_of o ≡ Some net → (t : CompositeType) × (o ≡ Some (Composite t))) [
      | None ↦ λ g. absurd (cc)
      | Some (Basic t) ↦ λ g. absurd (cc)
      | Some (Event e) ↦ λ g. absurd (cc)
      | Some (Composite t) ↦ λ g. (t, refl)
    ] h

-- what has a network and a type is a composite
composite_at :
    (lib : Library) (p : Path) (net : Network) (k : Kind) → network_at lib p ≡ Some net → kind_at lib p ≡ Some k
    → (t : CompositeType) × (kind_at lib p ≡ Some (Composite t))
composite_at lib [] net k h kind = absurd (cc)
composite_at lib (n ∷ p) net k h kind = composite_inside lib (instance_at lib (n ∷ p)) net k h kind

-- an end at the boundary of a network is a port of a composite
pub composite_around :
    (lib : Library) (p : Path) (net : Network) (component boundary : Ports → List Name) (e : ConnectionEnd) (q : Port) (m : ℕ) → network_at lib p ≡ Some net
    → path_of lib m ≡ q.at → is_none e.component ≡ true → IsEndOf lib p component boundary e q → IsCompositeHere lib m
composite_around lib p net component boundary e q m is_network at boundary_end is =
    let here : q.at ≡ p =
    elim e.component as (λ c. is_none c ≡ true → IsThere lib p c q.at → q.at ≡ p) [
      | None ↦ λ _ h. h
      | Some j ↦ λ h _. absurd (cc)
    ] boundary_end is.there in
    subst (λ (a : Path). (t : CompositeType) × (kind_at lib a ≡ Some (Composite t))) (sym at)
    (composite_at lib q.at net is.kind (ap (network_at lib) here ∙ is_network) is.is_kind)

-- an end is never at the root, which has no type
pub named_end : (lib : Library) (p : Path) (component boundary : Ports → List Name) (e : ConnectionEnd) (q : Port) → IsEndOf lib p component boundary e q → ¬ (q.at ≡ [])
named_end lib p component boundary e q is empty =
    let none : None ≡ Some is.kind = subst (λ (a : Path). kind_at lib a ≡ Some is.kind) empty is.is_kind in cc

pub some_tested : (c : Option ℕ) (b : Bool) → b ≡ is_some c → b ≡ false → is_none c ≡ true
some_tested None b h e = refl
some_tested (Some j) b h e = absurd (cc)

-- ---- Components

pub component_found :
    (lib : Library) (p : Path) (j : ℕ) (c : Option ℕ) (ks : List ℕ) → AreComponents lib p ks → c ≡ Some j → (a : Path) → IsThere lib p c a
    → path_of lib (get_or ks j 0) ≡ a
component_found lib p j c ks are is a there =
    let h : IsThere lib p (Some j) a = subst (λ (c : Option ℕ). IsThere lib p c a) is there in
    component_path lib p a j (get_or ks j 0) ks are h (slice_get-get_or ks j 0 (component_within lib p a j ks are h))

pub component_in_range :
    (lib : Library) (p : Path) (j : ℕ) (c : Option ℕ) (ks : List ℕ) (a : Path) → AreComponents lib p ks → c ≡ Some j → IsThere lib p c a
    → get_or ks j 0 < length (paths_of lib)
component_in_range lib p j c ks a are is there =
    let h : IsThere lib p (Some j) a = subst (λ (c : Option ℕ). IsThere lib p c a) is there in
    number_within lib p a j (get_or ks j 0) ks are h (slice_get-get_or ks j 0 (component_within lib p a j ks are h))

-- ---- Connections

-- the port that a wire at an index leads to
pub target_end :
    (lib : Library) (plan : Plan) (p : Path) (x : NetworkNumbers) (e w : ConnectionEnd) (q : Port) (index : ℕ) → ¬ (NameTwice lib plan) → IsWired lib p x
    → IsEndOf lib p event_outs event_ins e q → slice_get (targets_in x e) index ≡ Some w
    → (r : Port) × (slice_get (targets_along (events_inside lib p) q) index ≡ Some r) × IsEndOf lib p event_ins event_outs w r
target_end lib plan p x e w q index once is key h =
    pair_at (IsEndOf lib p event_ins event_outs) (targets_in x e) (targets_along (events_inside lib p) q) index w (targets_there lib plan p x e q once is key) h

pub target_past :
    (lib : Library) (plan : Plan) (p : Path) (x : NetworkNumbers) (e : ConnectionEnd) (q : Port) (index : ℕ) → ¬ (NameTwice lib plan) → IsWired lib p x
    → IsEndOf lib p event_outs event_ins e q → slice_get (targets_in x e) index ≡ None → slice_get (targets_along (events_inside lib p) q) index ≡ None
target_past lib plan p x e q index once is key h =
    none_at (IsEndOf lib p event_ins event_outs) (targets_in x e) (targets_along (events_inside lib p) q) index (targets_there lib plan p x e q once is key) h

pub targets_counted :
    (lib : Library) (plan : Plan) (p : Path) (x : NetworkNumbers) (e : ConnectionEnd) (q : Port) → ¬ (NameTwice lib plan) → IsWired lib p x
    → IsEndOf lib p event_outs event_ins e q → length (targets_in x e) ≡ length (targets_along (events_inside lib p) q)
targets_counted lib plan p x e q once is key =
    same_length (IsEndOf lib p event_ins event_outs) (targets_in x e) (targets_along (events_inside lib p) q) (targets_there lib plan p x e q once is key)

-- whether more than one of the ends is left from an index on
pub more_follow : (n m index : ℕ) → n ≡ m → IsTrue (nat_lt 1 (n - index)) ↔ (index + 1 < m)
more_follow n m index e = (λ more. let lt = ltb-true 1 (n - index) more in omega (arith, lt, e), λ more. lt-ltb 1 (n - index) (omega (arith, more, e)))

-- the port that the wire to an end comes from
pub source_end :
    (lib : Library) (plan : Plan) (p : Path) (x : NetworkNumbers) (e w : ConnectionEnd) (q : Port) → ¬ (NameTwice lib plan) → IsWired lib p x
    → IsEndOf lib p data_ins data_outs e q → source_in x e ≡ Some w
    → (r : Port) × (source_along (data_inside lib p) q ≡ Some r) × IsEndOf lib p data_outs data_ins w r
source_end lib plan p x e w q once is key h =
    first_pair (IsEndOf lib p data_outs data_ins) (map (λ w. w.from) (filter (λ w. same_end w.to e) x.data_wires)) (map (λ c. c.0) (filter (λ c. same_port c.1 q) (data_inside lib p)))
    w (sources_there lib plan p x e q once is key) h

pub source_none :
    (lib : Library) (plan : Plan) (p : Path) (x : NetworkNumbers) (e : ConnectionEnd) (q : Port) → ¬ (NameTwice lib plan) → IsWired lib p x
    → IsEndOf lib p data_ins data_outs e q → source_in x e ≡ None → source_along (data_inside lib p) q ≡ None
source_none lib plan p x e q once is key h =
    no_first (IsEndOf lib p data_outs data_ins) (map (λ w. w.from) (filter (λ w. same_end w.to e) x.data_wires)) (map (λ c. c.0) (filter (λ c. same_port c.1 q) (data_inside lib p)))
    (sources_there lib plan p x e q once is key) h

-- ---- Results of tests and lookups

pub none_tested : (c : Option ℕ) (b : Bool) → is_some c ≡ not b → b ≡ is_none c
none_tested None true h = refl
none_tested None false h = h
none_tested (Some j) true h = h
none_tested (Some j) false h = refl

pub read_at : (xs ys : List ConnectionEnd) (k : ℕ) (w : ConnectionEnd) → xs ≡ ys → k < length xs → w ≡ get_or xs k w → slice_get ys k ≡ Some w
read_at xs ys k w e h read = ap (λ (zs : List ConnectionEnd). slice_get zs k) (sym e) ∙ slice_get_read xs (length xs) k w refl h read

pub past_all : (xs ys : List ConnectionEnd) (k : ℕ) → xs ≡ ys → length xs ≤ k → slice_get ys k ≡ None
past_all xs ys k e h = ap (λ (zs : List ConnectionEnd). slice_get zs k) (sym e) ∙ slice_get_past xs k h
