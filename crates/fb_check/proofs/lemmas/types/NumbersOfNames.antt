-- The numbers of names, if none is unknown.
use Rattle.fb_check.proofs.lemmas.Common.{◌≡◌, ◌&&◌, ℕ, zero, suc, ◌+◌, true, false, List, [], ◌∷◌, ◌++◌, length, map, Option, Some, None, Bor, append_assoc, refl, sym, ◌∙◌, ap, is_some, slice_get, option_map, option_and_then, list_all, list_any, true≢false, Kind, among, ports_of, kind_of, kind_of_instance, resource_names_of, type_named, Name, same_name, OwnedNetwork, instance_names, data_ins, Link, Plan, ResourceEntry, Connection, Instance, Library, Parameter, PortName, Ports, IsIndex, index_in, IsNetwork, IsResolved, each_or_none, end_at, index_of, kind_of_number, type_number, port_number, ConnectionEnd, NetworkNumbers, TypeNumber, each_at, unless, FlowKind, Events, Data, Side, From, To, Site, Application, UnknownName, connection_number, number_in, each_some, mapped_unless, sides_unless, some_of, is_instance, is_resource, is_side_known, is_type_met, unknown_all, unknown_ends, unknown_in_block, unknown_in_instance, unknown_in_network, unknown_parameters}
use Rattle.fb_types.proofs.Common.{BTreeMap, and_from}
use Rattle.fb_types.proofs.lemmas.lists.Positions.{is_some-position, position_is}
use Rattle.fb_check_names.specs.Numbers.{held_numbers, link_ends, parameter_numbers, ports_at_index}
use Rattle.fb_check_names.specs.Unknown.{AreBlocks}
use Rattle.fb_check_names.specs.declared.numbers.LinkEnds.{LinkEnds}
use Rattle.fb_check_names.proofs.lemmas.Each.{is_some-each}
use Rattle.fb_check_names.proofs.lemmas.numbers.Lookups.{kind_known, kind_of_numbered, no_parameters, parameters_are, type_named-number}
use Rattle.fb_check_names.proofs.lemmas.unknown.NetworkUnknown.{end_known, instance_met, type_met, wire_known}
use Rattle.fb_check_names.specs.declared.location.UnknownName.TheVariants as location
use Rattle.fb_check_names.proofs.lemmas.Listing.{alike, none_each, none_left, none_right, none_unless}
use Rattle.fb_check.specs.types.Scopes.{AreTyped, component_number, inputs_in, inputs_of_type, number_or, number_past, side_number}
use Rattle.fb_check.specs.types.Present.{ends_in}
use Rattle.fb_check.specs.types.Unknown.{inputs_of, outputs_of}
use Rattle.fb_check.specs.types.Unknowns.{unknown_in_deployment, unknown_mapped, unknown_sides}
use Rattle.fb_check.proofs.lemmas.types.NetworkLocations.{any_map, parameters_of}
use Rattle.fb_check.proofs.lemmas.types.UnknownWitnesses.{none_in_ends, none_in_instance, none_in_parameters, none_unknown}

-- ---- Lists of what is there

-- if f has a result for each element, and g has the same
pub there_all :
    {A B : Type 0} (f g : A → Option B) (xs : List A) → ((x : A) → is_some (f x) ≡ true → f x ≡ g x) → list_all (λ x. is_some (f x)) xs ≡ true
    → each_or_none f xs ≡ Some (each_some g xs)
there_all f g [] same h = refl
there_all {A} {B} f g (x ∷ xs) same h =
    elim (f x) as
    (λ o. f x ≡ o → (is_some o && list_all (λ y. is_some (f y)) xs) ≡ true
    → option_and_then (λ y. option_map (λ ys. y ∷ ys) (each_or_none f xs)) o ≡ Some (some_of (g x) ++ each_some g xs)) [
      | None ↦ λ e h. absurd (true≢false (sym h))
      | Some y ↦ λ e h.
          ap (option_map (λ (ys : List B). y ∷ ys)) (there_all f g xs same h)
          ∙ ap (λ (o : Option B). Some (some_of o ++ each_some g xs)) (sym e ∙ same x (ap is_some e))
    ] refl h

-- the result for an element, if there is one for each
pub typed_at : {A B : Type 0} (h : A → B) (xs : List A) (k : ℕ) (x : A) → slice_get xs k ≡ Some x → slice_get (each_some (λ y. Some (h y)) xs) k ≡ Some (h x)
typed_at h [] k x e = absurd (cc)
typed_at h (y ∷ ys) zero x e = ap (option_map h) e
typed_at h (y ∷ ys) (suc k) x e = typed_at h ys k x e

-- ---- Types

past : {A : Type 0} (xs : List A) → slice_get xs (length xs) ≡ None
past [] = refl
past (x ∷ xs) = past xs

some_or : (t : TypeNumber) (o : Option TypeNumber) → is_some o ≡ true → o ≡ Some (number_or t o)
some_or t None h = absurd (true≢false (sym h))
some_or t (Some u) h = refl

-- the number of a name represents what the name does, and a number that no type has nothing
pub kind_in : (lib : Library) (n : Name) → kind_of_number lib (number_in lib n) ≡ type_named lib n
kind_in lib n =
    elim (type_number lib n) as (λ o. type_number lib n ≡ o → kind_of_number lib (number_or (number_past lib) o) ≡ type_named lib n) [
      | None ↦ λ e. ap (option_map kind_of) (past lib.blocks) ∙ sym (type_named-number lib n ∙ ap (option_and_then (kind_of_number lib)) e)
      | Some t ↦ λ e. sym (type_named-number lib n ∙ ap (option_and_then (kind_of_number lib)) e)
    ] refl

-- ---- Ends at components

abbrev pub end_there : ℕ → Option ℕ → Option ConnectionEnd
end_there i o = option_map (λ k. record { component = Some i; port = k }) o

port_there :
    (lib : Library) (n : OwnedNetwork) (port_kind : Ports → List Name) (e : PortName) (i : ℕ) (x : Instance) (t : TypeNumber)
    → slice_get n.1.instances i ≡ Some x → kind_of_instance lib x ≡ kind_of_number lib t
    → option_and_then (λ p. end_at (Some i) (port_kind p) e) (ports_at_index lib n i) ≡ end_there i (port_number lib t port_kind e.port)
port_there lib n port_kind e i x t at is =
    ap (λ (o : Option Instance). option_and_then (λ p. end_at (Some i) (port_kind p) e) (option_map ports_of (option_and_then (kind_of_instance lib) o))) at
    ∙ ap (λ (o : Option Kind). option_and_then (λ p. end_at (Some i) (port_kind p) e) (option_map ports_of o)) is
    ∙ (elim (kind_of_number lib t) as
    (λ o. option_and_then (λ p. end_at (Some i) (port_kind p) e) (option_map ports_of o) ≡ end_there i (option_and_then (λ k. index_of (port_kind (ports_of k)) e.port) o)) [
      | None ↦ refl
      | Some k ↦ refl
    ])

-- an end at a component by the number of its type
pub component_is :
    (lib : Library) (n : OwnedNetwork) (ts : List TypeNumber) (port_kind : Ports → List Name) (c : Name) (e : PortName) (i : ℕ)
    → AreTyped lib n.1.instances ts → index_of (instance_names n.1) c ≡ Some i
    → component_number lib n port_kind c e ≡ option_and_then (λ t. end_there i (port_number lib t port_kind e.port)) (slice_get ts i)
component_is lib n ts port_kind c e i typed at =
    let there = position_is (λ (x : Instance). x.name) c n.1.instances i at in
    let t = number_in lib there.0.block_type in
    let of_type : slice_get ts i ≡ Some t =
    ap (λ (ts : List TypeNumber). slice_get ts i) typed ∙ typed_at (λ (x : Instance). number_in lib x.block_type) n.1.instances i there.0 there.1 in
    ap (option_and_then (λ i. option_and_then (λ p. end_at (Some i) (port_kind p) e) (ports_at_index lib n i))) at
    ∙ port_there lib n port_kind e i there.0 t there.1 (sym (kind_in lib there.0.block_type))
    ∙ ap (option_and_then (λ t. end_there i (port_number lib t port_kind e.port))) (sym of_type)

-- ---- Instances

port_met : (lib : Library) (t : TypeNumber) (k : Kind) (n : Name) → kind_of_number lib t ≡ Some k → is_some (port_number lib t data_ins n) ≡ among (data_ins (ports_of k)) n
port_met lib t k n e =
    ap (λ (o : Option Kind). is_some (option_and_then (λ k. index_of (data_ins (ports_of k)) n) o)) e ∙ is_some-position (same_name n) (data_ins (ports_of k))

-- what is unknown of an instance whose type is known
pub known_instance :
    (lib : Library) (s : Site) (k : ℕ) (i : Instance) (t : TypeNumber) (xs : List Parameter) → type_number lib i.block_type ≡ Some t → xs ≡ i.parameters
    → each_at (λ p x. unless (is_some (port_number lib t data_ins x.name)) (location.Parameter s k p)) xs ≡ unknown_in_instance lib s k i
known_instance lib s k i t xs e all =
    let kind = kind_known lib i.block_type t e in
    let met : is_type_met lib i ≡ true = type_met lib i.block_type ∙ ap is_some e in
    let ports : Some (ports_of kind.0) ≡ option_map ports_of (kind_of_instance lib i) = sym (ap (option_map ports_of) (kind_of_numbered lib i t e ∙ kind.1)) in
    alike (λ p (x : Parameter). unless (is_some (port_number lib t data_ins x.name)) (location.Parameter s k p))
    (λ p (x : Parameter). unless (among (data_ins (ports_of kind.0)) x.name) (location.Parameter s k p)) xs
    (λ p x at. ap (λ b. unless b (location.Parameter s k p)) (port_met lib t kind.0 x.name kind.1))
    ∙ sym (parameters_of lib s k i (ports_of kind.0) xs ports all)
    ∙ ap (λ b. unless b (location.InstanceType s k) ++ unknown_parameters lib s k i) (sym met)

pub type_unmet : (lib : Library) (i : Instance) → type_number lib i.block_type ≡ None → is_type_met lib i ≡ false
type_unmet lib i e = type_met lib i.block_type ∙ ap is_some e

pub no_kind : (lib : Library) (i : Instance) → type_number lib i.block_type ≡ None → None ≡ option_map ports_of (kind_of_instance lib i)
no_kind lib i e = sym (ap (option_map ports_of) (type_named-number lib i.block_type ∙ ap (option_and_then (kind_of_number lib)) e))

inputs_are : (lib : Library) (i : Instance) → is_some (parameter_numbers lib i) ≡ true → parameter_numbers lib i ≡ Some (inputs_in lib i)
inputs_are lib i h =
    elim (type_number lib i.block_type) as (λ o. type_number lib i.block_type ≡ o → parameter_numbers lib i ≡ Some (inputs_of_type lib i o)) [
      | None ↦ λ e. absurd (true≢false (sym h ∙ ap is_some (no_parameters lib i e)))
      | Some t ↦ λ e.
          let f : Parameter → Option ℕ = λ x. port_number lib t data_ins x.name in
          sym (parameters_are lib i t e)
          ∙ there_all f f i.parameters (λ x known. refl) (sym (is_some-each f i.parameters) ∙ ap is_some (parameters_are lib i t e) ∙ h)
    ] refl

-- ---- Networks

-- an end is known if it has a number
pub side_met : (lib : Library) (n : OwnedNetwork) (f : FlowKind) (side : Side) (c : Connection) → is_some (side_number lib n f side c) ≡ is_side_known lib n f side c
side_met lib n f From c = sym (end_known lib n (outputs_of f) (inputs_of f) c.from)
side_met lib n f To c = sym (end_known lib n (inputs_of f) (outputs_of f) c.to)

wire_met : (lib : Library) (s : Site) (n : OwnedNetwork) (f : FlowKind) (k : ℕ) (c : Connection) → unknown_ends lib s n f k c ≡ [] → is_some (connection_number lib n f c) ≡ true
wire_met lib s n f k c h = sym (wire_known lib n (outputs_of f) (inputs_of f) c) ∙ none_in_ends lib s n f k c h

wires_are :
    (lib : Library) (s : Site) (n : OwnedNetwork) (f : FlowKind) (cs : List Connection) → each_at (unknown_ends lib s n f) cs ≡ []
    → each_or_none (connection_number lib n f) cs ≡ Some (each_some (connection_number lib n f) cs)
wires_are lib s n f cs h =
    there_all (connection_number lib n f) (connection_number lib n f) cs (λ c known. refl)
    (none_each (unknown_ends lib s n f) (λ c. is_some (connection_number lib n f c)) cs (wire_met lib s n f) h)

pub network_resolved :
    (lib : Library) (s : Site) (n : OwnedNetwork) (x : NetworkNumbers) → x.types ≡ each_some (λ i. Some (number_in lib i.block_type)) n.1.instances
    → x.parameters ≡ each_some (λ i. Some (inputs_in lib i)) n.1.instances → x.event_wires ≡ each_some (connection_number lib n Events) n.1.event_connections
    → x.data_wires ≡ each_some (connection_number lib n Data) n.1.data_connections → unknown_in_network lib s n ≡ [] → IsNetwork lib n x
network_resolved lib s n x types parameters events values h =
    let instances = each_at (unknown_in_instance lib s) n.1.instances in
    let of_events = each_at (unknown_ends lib s n Events) n.1.event_connections in
    let of_values = each_at (unknown_ends lib s n Data) n.1.data_connections in
    let first : instances ≡ [] = none_left instances (of_events ++ of_values) h in
    let rest : of_events ++ of_values ≡ [] = none_right instances (of_events ++ of_values) h in
    let typed : (k : ℕ) (i : Instance) → unknown_in_instance lib s k i ≡ [] → is_some (type_number lib i.block_type) ≡ true =
    λ k i none. sym (type_met lib i.block_type) ∙ none_in_instance lib s k i none in
    let set : (k : ℕ) (i : Instance) → unknown_in_instance lib s k i ≡ [] → is_some (parameter_numbers lib i) ≡ true =
    λ k i none. sym (instance_met lib i) ∙ and_from _ _ (typed k i none) (none_in_parameters lib s k i none) in
    record {
      types = there_all (λ (i : Instance). type_number lib i.block_type) (λ i. Some (number_in lib i.block_type)) n.1.instances
          (λ i known. some_or (number_past lib) (type_number lib i.block_type) known)
          (none_each (unknown_in_instance lib s) (λ i. is_some (type_number lib i.block_type)) n.1.instances typed first)
          ∙ ap (λ (ts : List TypeNumber). Some ts) (sym types);
      parameters = there_all (parameter_numbers lib) (λ i. Some (inputs_in lib i)) n.1.instances (inputs_are lib)
          (none_each (unknown_in_instance lib s) (λ i. is_some (parameter_numbers lib i)) n.1.instances set first)
          ∙ ap (λ (ps : List (List ℕ)). Some ps) (sym parameters);
      event_wires = wires_are lib s n Events n.1.event_connections (none_left of_events of_values rest) ∙ ap (λ ws. Some ws) (sym events);
      data_wires = wires_are lib s n Data n.1.data_connections (none_right of_events of_values rest) ∙ ap (λ ws. Some ws) (sym values);
    }

-- ---- Deployments

-- a name is one of a list if it has an index
index_met : {A : Type 0} (f : A → Name) (m : BTreeMap (Bor Name) ℕ) (xs : List A) (n : Name) → IsIndex (map f xs) m → is_some (index_in m n) ≡ list_any (λ x. same_name n (f x)) xs
index_met f m xs n is = ap is_some (is.index n) ∙ is_some-position (same_name n) (map f xs) ∙ sym (any_map f n xs)

mapped_are :
    (lib : Library) (m : BTreeMap (Bor Name) ℕ) (r : ℕ) (x : ResourceEntry) → IsIndex (instance_names lib.application.network) m
    → each_at (mapped_unless m r) x.instances ≡ unknown_mapped lib.application.network.instances r x
mapped_are lib m r x is =
    let js : List Instance = lib.application.network.instances in
    alike (mapped_unless m r) (λ k n. unless (is_instance js n) (location.Mapped r k)) x.instances
    (λ k n at. ap (λ b. unless b (location.Mapped r k)) (index_met (λ (i : Instance). i.name) m js n is))

sides_are : (plan : Plan) (m : BTreeMap (Bor Name) ℕ) (k : ℕ) (l : Link) → IsIndex (resource_names_of plan) m → sides_unless m k l ≡ unknown_sides plan.resources k l
sides_are plan m k l is =
    let met : (n : Name) → is_some (index_in m n) ≡ is_resource plan.resources n = λ n. index_met (λ (r : ResourceEntry). r.name) m plan.resources n is in
    λ i. unless (met l.from i) (location.LinkEnd k From) ++ unless (met l.to i) (location.LinkEnd k To)

-- the names of a deployment that are unknown, by their indexes
pub deployment_is :
    (lib : Library) (plan : Plan) (instances resources : BTreeMap (Bor Name) ℕ) (rs : List ResourceEntry) (ls : List Link)
    → IsIndex (instance_names lib.application.network) instances → IsIndex (resource_names_of plan) resources → rs ≡ plan.resources → ls ≡ plan.links
    → each_at (λ r x. each_at (mapped_unless instances r) x.instances) rs ++ each_at (sides_unless resources) ls ≡ unknown_in_deployment lib plan
deployment_is lib plan instances resources rs ls of_instances of_resources same_rs same_ls =
    let lists : ℕ → ResourceEntry → List UnknownName = λ r x. each_at (mapped_unless instances r) x.instances in
    let js : List Instance = lib.application.network.instances in
    let first : each_at lists rs ≡ each_at (unknown_mapped js) plan.resources =
    ap (each_at lists) same_rs ∙ alike lists (unknown_mapped js) plan.resources (λ r x at. mapped_are lib instances r x of_instances) in
    let last : each_at (sides_unless resources) ls ≡ each_at (unknown_sides plan.resources) plan.links =
    ap (each_at (sides_unless resources)) same_ls ∙ alike (sides_unless resources) (unknown_sides plan.resources) plan.links (λ k l at. sides_are plan resources k l of_resources) in
    λ i. first i ++ last i

list_held :
    (lib : Library) (m : BTreeMap (Bor Name) ℕ) (r : ResourceEntry) → IsIndex (instance_names lib.application.network) m → is_some (held_numbers lib r) ≡ true
    → held_numbers lib r ≡ Some (each_some (index_in m) r.instances)
list_held lib m r is known =
    let ns = instance_names lib.application.network in
    there_all (index_of ns) (index_in m) r.instances (λ n there. sym (is.index n)) (sym (is_some-each (index_of ns) r.instances) ∙ known)

listed_met : (lib : Library) (r : ℕ) (x : ResourceEntry) → unknown_mapped lib.application.network.instances r x ≡ [] → is_some (held_numbers lib x) ≡ true
listed_met lib r x h =
    let js : List Instance = lib.application.network.instances in
    let ns = instance_names lib.application.network in
    is_some-each (index_of ns) x.instances
    ∙ none_each (λ k n. unless (is_instance js n) (location.Mapped r k)) (λ n. is_some (index_of ns n)) x.instances
    (λ k n none. is_some-position (same_name n) ns ∙ sym (any_map (λ (i : Instance). i.name) n js) ∙ none_unless (is_instance js n) (location.Mapped r k) none) h

pub held_are :
    (lib : Library) (plan : Plan) (m : BTreeMap (Bor Name) ℕ) → IsIndex (instance_names lib.application.network) m
    → each_at (unknown_mapped lib.application.network.instances) plan.resources ≡ []
    → each_or_none (held_numbers lib) plan.resources ≡ Some (each_some (λ r. Some (each_some (index_in m) r.instances)) plan.resources)
held_are lib plan m is h =
    there_all (held_numbers lib) (λ (r : ResourceEntry). Some (each_some (index_in m) r.instances)) plan.resources (λ r known. list_held lib m r is known)
    (none_each (unknown_mapped lib.application.network.instances) (λ r. is_some (held_numbers lib r)) plan.resources (listed_met lib) h)

abbrev both_indexes : Option ℕ → Option ℕ → Option LinkEnds
both_indexes a b = option_and_then (λ x. option_map (λ y. record { from = x; to = y }) b) a

two_met : (a b : Option ℕ) → is_some a ≡ true → is_some b ≡ true → is_some (both_indexes a b) ≡ true
two_met None b p q = absurd (true≢false (sym p))
two_met (Some x) None p q = absurd (true≢false (sym q))
two_met (Some x) (Some y) p q = refl

link_met : (plan : Plan) (k : ℕ) (l : Link) → unknown_sides plan.resources k l ≡ [] → is_some (link_ends plan l) ≡ true
link_met plan k l h =
    let rs = plan.resources in
    let from = unless (is_resource rs l.from) (location.LinkEnd k From) in
    let to = unless (is_resource rs l.to) (location.LinkEnd k To) in
    let met : (n : Name) → is_resource rs n ≡ true → is_some (index_of (resource_names_of plan) n) ≡ true =
    λ n there. is_some-position (same_name n) (resource_names_of plan) ∙ sym (any_map (λ (r : ResourceEntry). r.name) n rs) ∙ there in
    two_met (index_of (resource_names_of plan) l.from) (index_of (resource_names_of plan) l.to)
    (met l.from (none_unless (is_resource rs l.from) (location.LinkEnd k From) (none_left from to h)))
    (met l.to (none_unless (is_resource rs l.to) (location.LinkEnd k To) (none_right from to h)))

pub links_are :
    (plan : Plan) (m : BTreeMap (Bor Name) ℕ) → IsIndex (resource_names_of plan) m → each_at (unknown_sides plan.resources) plan.links ≡ []
    → each_or_none (link_ends plan) plan.links ≡ Some (each_some (ends_in m) plan.links)
links_are plan m is h =
    there_all (link_ends plan) (ends_in m) plan.links (λ l known. λ i. both_indexes (sym (is.index l.from) i) (sym (is.index l.to) i))
    (none_each (unknown_sides plan.resources) (λ l. is_some (link_ends plan l)) plan.links (link_met plan) h)

-- ---- All

-- what four calls add
pub four_added :
    {X : Type 0} (a b c d e p q r s : List X) → b ≡ a ++ p → c ≡ b ++ q → d ≡ c ++ r → e ≡ d ++ s → e ≡ a ++ (p ++ (q ++ (r ++ s)))
four_added {X} a b c d e p q r s first second third last =
    last ∙ ap (λ (xs : List X). xs ++ s) third ∙ append_assoc c r s
    ∙ ap (λ (xs : List X). xs ++ (r ++ s)) second ∙ append_assoc b q (r ++ s)
    ∙ ap (λ (xs : List X). xs ++ (q ++ (r ++ s))) first ∙ append_assoc a p (q ++ (r ++ s))

pub resolved :
    (lib : Library) (plan : Plan) (x : NetworkNumbers) (blocks : List (Option NetworkNumbers)) (held : List (List ℕ)) (links : List LinkEnds)
    (instances resources : BTreeMap (Bor Name) ℕ) (rs : List ResourceEntry) (ls : List Link)
    → IsIndex (instance_names lib.application.network) instances → IsIndex (resource_names_of plan) resources → rs ≡ plan.resources → ls ≡ plan.links
    → (unknown_in_network lib Application (None, lib.application.network) ≡ [] → IsNetwork lib (None, lib.application.network) x)
    → (each_at (unknown_in_block lib) lib.blocks ≡ [] → AreBlocks lib blocks)
    → held ≡ each_some (λ r. Some (each_some (index_in instances) r.instances)) rs → links ≡ each_some (ends_in resources) ls
    → unknown_all lib plan ≡ [] → IsResolved lib plan (record { application = x; blocks = blocks; held = held; links = links })
resolved lib plan x blocks held links instances resources rs ls of_instances of_resources same_rs same_ls network all held_is links_is h =
    let bs = each_at (unknown_in_block lib) lib.blocks in
    let n = unknown_in_network lib Application (None, lib.application.network) in
    let d = unknown_in_deployment lib plan in
    let lists = each_at (unknown_mapped lib.application.network.instances) plan.resources in
    let ends = each_at (unknown_sides plan.resources) plan.links in
    let rest : n ++ d ≡ [] = none_right bs (n ++ d) h in
    let deployed : lists ++ ends ≡ [] = none_right n d rest in
    let are = all (none_left bs (n ++ d) h) in
    let hold : ResourceEntry → Option (List ℕ) = λ r. Some (each_some (index_in instances) r.instances) in
    record {
      known = none_unknown lib plan h;
      application = network (none_left n d rest);
      counted = are.counted;
      basics = are.basics;
      composites = are.composites;
      held = held_are lib plan instances of_instances (none_left lists ends deployed)
          ∙ ap (λ (hs : List (List ℕ)). Some hs) (sym (held_is ∙ ap (each_some hold) same_rs));
      links = links_are plan resources of_resources (none_right lists ends deployed)
          ∙ ap (λ (es : List LinkEnds). Some es) (sym (links_is ∙ ap (each_some (ends_in resources)) same_ls));
    }
