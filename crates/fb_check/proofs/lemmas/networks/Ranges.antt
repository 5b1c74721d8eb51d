-- E23 by number: a data connection to a type that does not contain all values of the source type.
use Rattle.fb_check.proofs.lemmas.Common.{◌≡◌, ℕ, true, false, not, List, [], ◌∷◌, ◌++◌, Option, Some, None, Contains, refl, sym, ◌∙◌, ap, subst, cond, inl, inr, All, slice_get, option_map, option_and_then, position, flat_map, list_all, true≢false, Name, same_name, Kind, named, ports_of, variable_names, kind_of_instance, OwnedNetwork, NameTwice, networks, networks_in, instance_names, Ty, Library, BlockType, CompositeType, Connection, Instance, PortName, Ports, Variable, Plan, TypeNumber, ConnectionEnd, NetworkNumbers, Resolved, IsNetwork, IsResolved, index_of, type_number, kind_of_number, end_at, end_number, each_at, unless, inside_of, network_at, OutOfRangeAt, Site, Application, Inside, out_at_index}
use Rattle.fb_types.proofs.Common.{type_at, instance_in, OutOfRange}
use Rattle.fb_types.specs.Joined.{IsWithin, type_among, type_at_end}
use Rattle.fb_types.specs.declared.library.BlockType.TheVariants as block
use Rattle.fb_types.proofs.lemmas.lists.Positions.{named-position, position_is, slice_get-Contains}
use Rattle.fb_types.proofs.lemmas.lists.Elements.{Contains-cons_cases}
use Rattle.fb_check_names.specs.declared.numbers.NumberedConnection.{NumberedConnection}
use Rattle.fb_check_names.specs.Numbers.{ports_at_index, both_ends, data_wire}
use Rattle.fb_check.specs.networks.Ranges.{is_within}
use Rattle.fb_check.specs.networks.Variables.{source_type, target_type}
use Rattle.fb_types.proofs.lemmas.lists.Options.{and_then_parts, map_parts}
use Rattle.fb_check_names.proofs.lemmas.Each as numbered
use Rattle.fb_types.proofs.lemmas.lists.ByIndex.{element_of_index}
use Rattle.fb_types.proofs.lemmas.lists.ListTests.{passes_at}
use Rattle.fb_check_names.proofs.lemmas.Listing.{alike, all_each, all_unless, none_each, none_unless}
use Rattle.fb_check_names.proofs.lemmas.unknown.InNetworks.{all_in_networks, none_in_networks, site_network}
use Rattle.fb_check.specs.networks.Networks.{boundary}
use Rattle.fb_check.specs.networks.Joins.{is_out}
use Rattle.fb_check.specs.networks.OutOfRange.{IsOutOfRangeAt, is_joined, out_of_range_at, out_of_range_all, out_of_range_in, out_at, out_in, out_inside}
use Rattle.fb_check.proofs.lemmas.networks.Naming.{IsApart, type_by_number, composite_at, kind_apart, composite_apart}
use Rattle.fb_check.proofs.lemmas.networks.NumberedLists.{numbered_list}
use Rattle.fb_check.proofs.lemmas.networks.Placing.{application_in, inside_in}
use Rattle.fb_check.proofs.lemmas.networks.Ranged.{within-Decides}
use Rattle.fb_check.proofs.lemmas.networks.Valued.{not_not}

-- ---- The variable with a name

named_front : {A : Type 0} (f : A → Name) (n : Name) (xs ys : List A) (x : A) → named f n xs ≡ Some x → named f n (xs ++ ys) ≡ Some x
named_front f n [] ys x h = absurd (cc)
named_front {A} f n (z ∷ zs) ys x h =
    elim (same_name (f z) n) as (λ b. cond b (Some z) (named f n zs) ≡ Some x → cond b (Some z) (named f n (zs ++ ys)) ≡ Some x) [
      | true ↦ λ g. g
      | false ↦ λ g. named_front f n zs ys x g
    ] h

named_back : {A : Type 0} (f : A → Name) (n : Name) (xs ys : List A) → named f n xs ≡ None → named f n (xs ++ ys) ≡ named f n ys
named_back f n [] ys h = refl
named_back {A} f n (z ∷ zs) ys h =
    elim (same_name (f z) n) as (λ b. cond b (Some z) (named f n zs) ≡ None → cond b (Some z) (named f n (zs ++ ys)) ≡ named f n ys) [
      | true ↦ λ g. absurd (cc)
      | false ↦ λ g. named_back f n zs ys g
    ] h

abbrev variable_name : Variable → Name
variable_name v = v.name

named_at : (vs : List Variable) (n : Name) (k : ℕ) → index_of (variable_names vs) n ≡ Some k → named variable_name n vs ≡ slice_get vs k
named_at vs n k h = named-position variable_name n vs ∙ ap (option_and_then (slice_get vs)) h

-- the type of a data input by its index
inputs_among : (p : Ports) (e : PortName) (k : ℕ) → index_of (variable_names p.inputs) e.port ≡ Some k → type_at p.inputs k ≡ type_among p e
inputs_among p e k h =
    let at = position_is variable_name e.port p.inputs k h in
    let first = named_at p.inputs e.port k h ∙ at.1 in
    ap (option_map (λ (v : Variable). v.ty)) (at.1 ∙ sym (named_front variable_name e.port p.inputs p.outputs at.0 first))

-- what has an index among the names is among them
has_name : (vs : List Variable) (n : Name) (k : ℕ) → index_of (variable_names vs) n ≡ Some k → Contains (variable_names vs) n
has_name vs n k h =
    let at = position_is variable_name n vs k h in
    subst (λ (m : Name). Contains (variable_names vs) m) at.2 (slice_get-Contains variable_name vs k at.0 at.1)

-- the type of a data output by its index: no data input has its name
outputs_among :
    (p : Ports) (e : PortName) (k : ℕ) → IsApart p → index_of (variable_names p.outputs) e.port ≡ Some k → type_at p.outputs k ≡ type_among p e
outputs_among p e k apart h =
    let no_input : named variable_name e.port p.inputs ≡ None =
    elim (position (same_name e.port) (variable_names p.inputs)) as (λ o. position (same_name e.port) (variable_names p.inputs) ≡ o → named variable_name e.port p.inputs ≡ None) [
      | None ↦ λ none. named-position variable_name e.port p.inputs ∙ ap (option_and_then (slice_get p.inputs)) none
      | Some j ↦ λ some. absurd (apart e.port (has_name p.inputs e.port j some) (has_name p.outputs e.port k h))
    ] refl in
    ap (option_map (λ (v : Variable). v.ty)) (sym (named_back variable_name e.port p.inputs p.outputs no_input ∙ named_at p.outputs e.port k h))

-- ---- Ends of connections

-- The types of the variables of a kind are found by their indexes.
abbrev Finds : (Ports → List Variable) → Ports → Type 0
Finds sort p = (e : PortName) (k : ℕ) → index_of (variable_names (sort p)) e.port ≡ Some k → type_at (sort p) k ≡ type_among p e

-- the type at an end, among the variables of the one kind at a component, or of the other at the boundary
abbrev end_type : Library → (component boundary : Ports → List Variable) → Option Ports → List TypeNumber → ConnectionEnd → Option Ty
end_type lib component around ports types e =
    elim e.component [
      | None ↦ option_and_then (λ p. type_at (around p) e.port) ports
      | Some i ↦ option_and_then (λ t. option_and_then (λ kind. type_at (component (ports_of kind)) e.port) (kind_of_number lib t)) (slice_get types i)
    ]

boundary_end :
    (lib : Library) (n : OwnedNetwork) (types : List TypeNumber) (component around : Ports → List Variable) (e : PortName) (w : ConnectionEnd)
    → ((t : CompositeType) → n.0 ≡ Some t → Finds around t.ports)
    → option_and_then (λ t. end_at None (variable_names (around t.ports)) e) n.0 ≡ Some w
    → end_type lib component around (boundary n) types w ≡ option_and_then (λ t. type_among t.ports e) n.0
boundary_end lib n types component around e w finds h =
    let t = and_then_parts (λ (t : CompositeType). end_at None (variable_names (around t.ports)) e) n.0 w h in
    let at = map_parts (λ (k : ℕ). record { component = None; port = k }) (index_of (variable_names (around t.0.ports)) e.port) w t.2 in
    let P : ConnectionEnd → Type 0 = λ w. end_type lib component around (boundary n) types w ≡ option_and_then (λ t. type_among t.ports e) n.0 in
    subst P at.2
    (ap (λ (o : Option CompositeType). option_and_then (λ (p : Ports). type_at (around p) at.0) (option_map (λ t. t.ports) o)) t.1
    ∙ finds t.0 t.1 e at.0 at.1
    ∙ sym (ap (option_and_then (λ (t : CompositeType). type_among t.ports e)) t.1))

component_end :
    (lib : Library) (n : OwnedNetwork) (x : NetworkNumbers) (component around : Ports → List Variable) (e : PortName) (c : Name) (w : ConnectionEnd) → IsNetwork lib n x
    → ((t : TypeNumber) (k : Kind) → kind_of_number lib t ≡ Some k → Finds component (ports_of k))
    → option_and_then (λ i. option_and_then (λ p. end_at (Some i) (variable_names (component p)) e) (ports_at_index lib n i)) (index_of (instance_names n.1) c) ≡ Some w
    → end_type lib component around (boundary n) x.types w
    ≡ option_and_then (λ k. type_among (ports_of k) e) (option_and_then (kind_of_instance lib) (instance_in n.1 c))
component_end lib n x component around e c w is finds h =
    let i = and_then_parts (λ (i : ℕ). option_and_then (λ (p : Ports). end_at (Some i) (variable_names (component p)) e) (ports_at_index lib n i)) (index_of (instance_names n.1) c) w h in
    let p = and_then_parts (λ (p : Ports). end_at (Some i.0) (variable_names (component p)) e) (ports_at_index lib n i.0) w i.2 in
    let k = map_parts ports_of (option_and_then (kind_of_instance lib) (slice_get n.1.instances i.0)) p.0 p.1 in
    let inst = and_then_parts (kind_of_instance lib) (slice_get n.1.instances i.0) k.0 k.1 in
    let ends : end_at (Some i.0) (variable_names (component (ports_of k.0))) e ≡ Some w =
    ap (λ (p : Ports). end_at (Some i.0) (variable_names (component p)) e) k.2 ∙ p.2 in
    let at = map_parts (λ (j : ℕ). record { component = Some i.0; port = j }) (index_of (variable_names (component (ports_of k.0))) e.port) w ends in
    let t = numbered.each_at (λ (i : Instance). type_number lib i.block_type) n.1.instances x.types i.0 inst.0 is.types inst.1 in
    let kind : kind_of_number lib t.0 ≡ Some k.0 = sym (type_by_number lib inst.0.block_type t.0 t.2) ∙ inst.2 in
    let found : instance_in n.1 c ≡ slice_get n.1.instances i.0 =
    named-position (λ (i : Instance). i.name) c n.1.instances ∙ ap (option_and_then (slice_get n.1.instances)) i.1 in
    let stands : option_and_then (kind_of_instance lib) (instance_in n.1 c) ≡ Some k.0 = ap (option_and_then (kind_of_instance lib)) found ∙ k.1 in
    let P : ConnectionEnd → Type 0 = λ w. end_type lib component around (boundary n) x.types w ≡ option_and_then (λ k. type_among (ports_of k) e) (option_and_then (kind_of_instance lib) (instance_in n.1 c)) in
    subst P at.2
    (ap (option_and_then (λ (t : TypeNumber). option_and_then (λ (kind : Kind). type_at (component (ports_of kind)) at.0) (kind_of_number lib t))) t.1
    ∙ ap (option_and_then (λ (kind : Kind). type_at (component (ports_of kind)) at.0)) kind
    ∙ finds t.0 k.0 kind e at.0 at.1
    ∙ sym (ap (option_and_then (λ (k : Kind). type_among (ports_of k) e)) stands))

end_by_number :
    (lib : Library) (n : OwnedNetwork) (x : NetworkNumbers) (component around : Ports → List Variable) (e : PortName) (w : ConnectionEnd) → IsNetwork lib n x
    → ((t : TypeNumber) (k : Kind) → kind_of_number lib t ≡ Some k → Finds component (ports_of k))
    → ((t : CompositeType) → n.0 ≡ Some t → Finds around t.ports)
    → end_number lib n (λ p. variable_names (component p)) (λ p. variable_names (around p)) e ≡ Some w
    → end_type lib component around (boundary n) x.types w ≡ type_at_end lib n e
end_by_number lib n x component around e w is finds finds_around h =
    elim e.component as
    (λ (o : Option Name).
    elim o as (λ _. Option ConnectionEnd) [
      | None ↦ option_and_then (λ t. end_at None (variable_names (around t.ports)) e) n.0
      | Some c ↦ option_and_then (λ i. option_and_then (λ p. end_at (Some i) (variable_names (component p)) e) (ports_at_index lib n i)) (index_of (instance_names n.1) c)
    ] ≡ Some w
    → end_type lib component around (boundary n) x.types w
    ≡ elim o as (λ _. Option Ty) [
      | None ↦ option_and_then (λ t. type_among t.ports e) n.0
      | Some c ↦ option_and_then (λ k. type_among (ports_of k) e) (option_and_then (kind_of_instance lib) (instance_in n.1 c))
    ]) [
      | None ↦ boundary_end lib n x.types component around e w finds_around
      | Some c ↦ component_end lib n x component around e c w is finds
    ] h

-- ---- Networks

both_parts : (a b : Option ConnectionEnd) (w : NumberedConnection) → both_ends a b ≡ Some w → (a ≡ Some w.from) × (b ≡ Some w.to)
both_parts a b w h =
    let x = and_then_parts (λ (x : ConnectionEnd). option_map (λ (y : ConnectionEnd). record { from = x; to = y }) b) a w h in
    let y = map_parts (λ (y : ConnectionEnd). record { from = x.0; to = y }) b w x.2 in
    (x.1 ∙ ap (λ (w : NumberedConnection). Some w.from) y.2, y.1 ∙ ap (λ (w : NumberedConnection). Some w.to) y.2)

-- the types at the two ends of a connection
abbrev AreTypes : Library → OwnedNetwork → NetworkNumbers → Connection → NumberedConnection → Type 0
AreTypes lib n x c w =
    (source_type lib (boundary n) x.types w.from ≡ type_at_end lib n c.from) × (target_type lib (boundary n) x.types w.to ≡ type_at_end lib n c.to)

around_apart :
    (lib : Library) (plan : Plan) (n : OwnedNetwork) (t : CompositeType) → ¬ (NameTwice lib plan) → Contains (networks lib) n → n.0 ≡ Some t → IsApart t.ports
around_apart lib plan n t once there h =
    elim (Contains-cons_cases (None, lib.application.network) (flat_map networks_in lib.blocks) n there) [
      | inl e ↦ absurd (let none : None ≡ Some t = ap (λ (n : OwnedNetwork). n.0) e ∙ h in cc)
      | inr rest ↦
          let at = composite_at lib.blocks n rest in
          let some : Some at.1 ≡ Some t = ap (λ (n : OwnedNetwork). n.0) at.3 ∙ h in
          let same : at.1 ≡ t = cc in
          let P : CompositeType → Type 0 = λ t. IsApart t.ports in
          subst P same (composite_apart lib plan at.0 at.1 once at.2)
    ]

wire_types :
    (lib : Library) (plan : Plan) (n : OwnedNetwork) (x : NetworkNumbers) (c : Connection) (w : NumberedConnection) → ¬ (NameTwice lib plan) → Contains (networks lib) n
    → IsNetwork lib n x → data_wire lib n c ≡ Some w → AreTypes lib n x c w
wire_types lib plan n x c w once there is h =
    let outputs : Ports → List Variable = λ p. p.outputs in
    let inputs : Ports → List Variable = λ p. p.inputs in
    let ends = both_parts (end_number lib n (λ p. variable_names p.outputs) (λ p. variable_names p.inputs) c.from) (end_number lib n (λ p. variable_names p.inputs) (λ p. variable_names p.outputs) c.to) w h in (
      end_by_number lib n x (λ p. p.outputs) (λ p. p.inputs) c.from w.from is
          (λ t k kind e j. outputs_among (ports_of k) e j (kind_apart lib plan t k once kind)) (λ t _ e j. inputs_among t.ports e j) ends.0,
      end_by_number lib n x (λ p. p.inputs) (λ p. p.outputs) c.to w.to is
          (λ t k kind e j. inputs_among (ports_of k) e j) (λ t around e j. outputs_among t.ports e j (around_apart lib plan n t once there around)) ends.1,
    )

within : (o p : Option Ty) (s t : Ty) → not (is_out o p) ≡ true → o ≡ Some s → p ≡ Some t → IsWithin s t
within o p s t h from to =
    (within-Decides s t).0 (sym (not_not (is_within s t)) ∙ (λ i. not (is_out (sym from i) (sym to i))) ∙ h)

record Out (o p : Option Ty) : Type 0 where
  source : Ty
  target : Ty
  from : o ≡ Some source
  to : p ≡ Some target
  out : ¬ (IsWithin source target)

out_types : (o p : Option Ty) → not (is_out o p) ≡ false → Out o p
out_types (Some s) (Some t) h = record {
  source = s;
  target = t;
  from = refl;
  to = refl;
  out = λ w. true≢false (sym ((within-Decides s t).1 w) ∙ (sym (not_not (is_within s t)) ∙ h));
}
out_types (Some s) None h = absurd (true≢false h)
out_types None p h = absurd (true≢false h)

out_of_range_found :
    (lib : Library) (s : Site) (n : OwnedNetwork) (k : ℕ) (c : Connection) → network_at lib s ≡ Some n → slice_get n.1.data_connections k ≡ Some c → is_joined lib n c ≡ false
    → IsOutOfRangeAt lib (record { site = s; connection = k })
out_of_range_found lib s n k c is found fails =
    let ends = out_types (type_at_end lib n c.from) (type_at_end lib n c.to) fails in
    record {
      network = n;
      at_index = c;
      source = ends.source;
      target = ends.target;
      network_is = is;
      found = found;
      from = ends.from;
      to = ends.to;
      out = ends.out;
    }

-- ---- By number

network_is :
    (lib : Library) (plan : Plan) (s : Site) (n : OwnedNetwork) (x : NetworkNumbers) → ¬ (NameTwice lib plan) → Contains (networks lib) n → IsNetwork lib n x
    → out_in lib s (boundary n) x ≡ out_of_range_in lib s n
network_is lib plan s n x once there is =
    numbered_list (data_wire lib n) (out_at lib s (boundary n) x.types) (out_of_range_at lib s n) n.1.data_connections x.data_wires is.data_wires (λ k c w h.
    let types = wire_types lib plan n x c w once there is h in
    let at : OutOfRangeAt = record { site = s; connection = k } in
    λ i. unless (not (is_out (types.0 i) (types.1 i))) at)

inside_is :
    (lib : Library) (plan : Plan) (r : Resolved) → ¬ (NameTwice lib plan) → IsResolved lib plan r → (b : ℕ) (t : BlockType) → slice_get lib.blocks b ≡ Some t
    → out_at_index lib r.blocks b t ≡ inside_of (out_of_range_in lib) b t
inside_is lib plan r once is b (block.Basic t) at =
    ap (λ (o : Option (Option NetworkNumbers)). elim o as (λ _. List OutOfRangeAt) [ None ↦ [] | Some q ↦ out_inside lib b (block.Basic t) q ]) (is.basics b t at)
inside_is lib plan r once is b (block.Composite t) at =
    let c = is.composites b t at in
    let n : OwnedNetwork = (Some t, t.network) in
    ap (λ (o : Option (Option NetworkNumbers)). elim o as (λ _. List OutOfRangeAt) [ None ↦ [] | Some q ↦ out_inside lib b (block.Composite t) q ]) c.1
    ∙ network_is lib plan (Inside b) n c.0 once (inside_in lib b t at) c.2

-- those that were found by number are all
pub out_of_range_are :
    (lib : Library) (plan : Plan) (r : Resolved) → ¬ (NameTwice lib plan) → IsResolved lib plan r
    → each_at (out_at_index lib r.blocks) lib.blocks ++ out_in lib Application None r.application ≡ out_of_range_all lib
out_of_range_are lib plan r once is =
    let top : OwnedNetwork = (None, lib.application.network) in
    let inside = alike (out_at_index lib r.blocks) (inside_of (out_of_range_in lib)) lib.blocks (inside_is lib plan r once is) in
    let here = network_is lib plan Application top r.application once (application_in lib) is.application in
    λ i. inside i ++ here i

-- ---- All data connections

pub each_out_of_range : (lib : Library) → All (IsOutOfRangeAt lib) (out_of_range_all lib)
each_out_of_range lib =
    all_in_networks (IsOutOfRangeAt lib) (out_of_range_in lib) lib (λ s n at.
    all_each (IsOutOfRangeAt lib) (out_of_range_at lib s n) n.1.data_connections
    (λ k c found. all_unless (IsOutOfRangeAt lib) (is_joined lib n c) (record { site = s; connection = k }) (out_of_range_found lib s n k c at found)))

pub none_out_of_range : (lib : Library) → out_of_range_all lib ≡ [] → ¬ (OutOfRange lib)
none_out_of_range lib h w =
    let all : OwnedNetwork → Type 0 = λ n. list_all (is_joined lib n) n.1.data_connections ≡ true in
    let joined = none_in_networks (out_of_range_in lib) all lib (λ s n e.
    none_each (out_of_range_at lib s n) (is_joined lib n) n.1.data_connections (λ k c f. none_unless (is_joined lib n c) (record { site = s; connection = k }) f) e) h w.0 w.4 in
    w.8 (within (type_at_end lib w.0 w.1.from) (type_at_end lib w.0 w.1.to) w.2 w.3 (passes_at (is_joined lib w.0) w.0.1.data_connections w.1 joined w.5) w.6 w.7)

pub out_of_range_applies : (lib : Library) (p : OutOfRangeAt) → IsOutOfRangeAt lib p → OutOfRange lib
out_of_range_applies lib p m = (
  m.network,
  m.at_index,
  m.source,
  m.target,
  site_network lib p.site m.network m.network_is,
  element_of_index m.network.1.data_connections p.connection m.at_index m.found,
  m.from,
  m.to,
  m.out,
)
