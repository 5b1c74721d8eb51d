-- Connections between two resources, and the links for them.
use Rattle.fb_check.proofs.lemmas.Common.{◌≡◌, ◌≢◌, ◌&&◌, ◌||◌, ℕ, Bool, true, false, List, [], ◌∷◌, ◌++◌, map, Some, None, Contains, Bor, refl, sym, ◌∙◌, ap, subst, inl, inr, arith, All, is_some, nat_eq, slice_get, list_all, list_any, Decides, true≢false, false_from_ne_true, nat_tests, All-append, Contains-append_left, Contains-append_right, Name, Port, same_name, port_in, Library, Connection, PortName, Plan, Link, each_at, connections_of, FlowKind, Data, Events, no_link_at}
use Rattle.fb_types.proofs.Common.{Contains-append_cases, resource_of, NoLink}
use Rattle.std.specs.BTreeSet as set
use Rattle.fb_types.specs.Flat.{link_between, name_of_resource}
use Rattle.fb_types.specs.Mapped.{IsCrossing, event_pairs_of, data_pairs_of}
use Rattle.fb_types.proofs.lemmas.lists.ByIndex.{element_of_index}
use Rattle.fb_types.proofs.lemmas.lists.ListTests.{passes_at}
use Rattle.fb_types.proofs.lemmas.lists.Positions.{is_some-position}
use Rattle.fb_types.proofs.lemmas.names.NameLaws.{same_name-Decides, same_from_same_name}
use Rattle.fb_types.proofs.lemmas.lists.Options.{none_from_is_some}
use Rattle.fb_types.proofs.lemmas.lists.Elements.{Contains-map, map-Contains}
use Rattle.fb_check_names.specs.declared.location.NoLinkAt.{NoLinkAt}
use Rattle.fb_check_names.proofs.lemmas.Listing.{all_each, all_unless, none_each, none_left, none_right, none_unless}
use Rattle.fb_check_names.proofs.lemmas.twice.Repeating.{same_Decides}
use Rattle.fb_check.specs.networks.Mapping.{IsHolding, resource_in, holder_in}
use Rattle.fb_check.specs.networks.Links.{AreWays, IsNoLinkAt, are_linked, is_joining, is_linked, names_of_link, pair_of, no_link_all}
use Rattle.fb_check.specs.declared.networks.mapping.Mapping.{Mapping}
use Rattle.fb_check.proofs.lemmas.networks.ListElements.{any-Decides}
use Rattle.fb_check.proofs.lemmas.networks.SetsOfSeen.{Has, Pair, pair_cmp, pair_view}

pub resource-is : (plan : Plan) (m : Mapping) (p : PortName) → IsHolding plan m → resource_in m p ≡ resource_of plan (port_in [] p).at
resource-is plan m p holds =
    elim p.component as (λ o. elim o as (λ _. ℕ) [ None ↦ 0 | Some c ↦ holder_in m c ] ≡ resource_of plan (elim o as (λ _. Port) [ None ↦ record { at = []; name = p.port } | Some c ↦ record { at = c ∷ []; name = p.port } ]).at) [
      | None ↦ refl
      | Some c ↦ holds.holder c
    ]

-- ---- Links

abbrev names : Name → Name → Name × Name
names a b = (a, b)

pair-Decides : (a b c d : Name) → Decides (same_name a c && same_name b d) (names a b ≡ names c d)
pair-Decides a b c d =
    elim (same_name a c) as (λ t. same_name a c ≡ t → Decides (t && same_name b d) (names a b ≡ names c d)) [
      | true ↦ λ e. (
        λ h. λ i. (same_from_same_name a c e i, same_from_same_name b d h i),
        λ g. (same_name-Decides b d).1 (ap (λ (x : Name × Name). x.1) g),
      )
      | false ↦ λ e. (
        λ h. absurd (true≢false (sym h)),
        λ g. absurd (true≢false (sym ((same_name-Decides a c).1 (ap (λ (x : Name × Name). x.0) g)) ∙ e)),
      )
    ] refl

link_found :
    (links : List Link) (from to : Name) → Decides (list_any (λ l. same_name l.from from && same_name l.to to) links) (Contains (map names_of_link links) (names from to))
link_found links from to =
    any-Decides names_of_link (λ l. same_name l.from from && same_name l.to to) (names from to) links (λ l. pair-Decides l.from l.to from to)

pub ways_from : (links : List Link) (ways : set.BTreeSet Pair) → Has pair_cmp pair_view (Contains (map names_of_link links)) ways → AreWays links ways
ways_from links ways has = record { has = λ from to. has (record { ref_ptr = (0, 0); now = from }, record { ref_ptr = (0, 0); now = to }) }

-- ---- One connection

-- what the code found of a connection: the resources of its ends, their names, and whether there is a link
pub record IsTried (plan : Plan) (m : Mapping) (c : Connection) (ways : set.BTreeSet Pair) (r s : ℕ) (from to : Bor Name) (found : Bool) : Type 0 where
  pub holds : IsHolding plan m
  pub ways_are : AreWays plan.links ways
  pub sends : r ≡ resource_in m c.from
  pub receives : s ≡ resource_in m c.to
  pub sender : from.now ≡ name_of_resource plan r
  pub receiver : to.now ≡ name_of_resource plan s
  pub found_is : found ≡ set.contains pair_cmp ways (from, to)

sends_is : (plan : Plan) (m : Mapping) (p : PortName) (r : ℕ) → IsHolding plan m → r ≡ resource_in m p → r ≡ resource_of plan (port_in [] p).at
sends_is plan m p r holds e = e ∙ resource-is plan m p holds

tried_names :
    (plan : Plan) (m : Mapping) (c : Connection) (ways : set.BTreeSet Pair) (r s : ℕ) (from to : Bor Name) (found : Bool) → IsTried plan m c ways r s from to found
    → names from.now to.now ≡ names (name_of_resource plan (resource_of plan (pair_of c).0.at)) (name_of_resource plan (resource_of plan (pair_of c).1.at))
tried_names plan m c ways r s from to found t =
    let p : from.now ≡ name_of_resource plan (resource_of plan (pair_of c).0.at) =
    t.sender ∙ ap (name_of_resource plan) (sends_is plan m c.from r t.holds t.sends) in
    let q : to.now ≡ name_of_resource plan (resource_of plan (pair_of c).1.at) =
    t.receiver ∙ ap (name_of_resource plan) (sends_is plan m c.to s t.holds t.receives) in
    λ i. (p i, q i)

-- the result for a connection whose ends one resource holds
pub linked_same : (plan : Plan) (m : Mapping) (c : Connection) (r s : ℕ) → IsHolding plan m → r ≡ resource_in m c.from → s ≡ resource_in m c.to → r ≡ s → true ≡ is_linked plan c
linked_same plan m c r s holds sends receives same =
    let from = resource_of plan (pair_of c).0.at in
    let to = resource_of plan (pair_of c).1.at in
    let one : from ≡ to = sym (sends_is plan m c.from r holds sends) ∙ same ∙ sends_is plan m c.to s holds receives in
    let equal : nat_eq from to ≡ true = grind (arith, nat_tests, one) in
    sym (ap (λ b. b || list_any (is_joining (name_of_resource plan from) (name_of_resource plan to)) plan.links) equal)

-- the result for a connection whose ends are in two resources
pub linked_is :
    (plan : Plan) (m : Mapping) (c : Connection) (ways : set.BTreeSet Pair) (r s : ℕ) (from to : Bor Name) (found : Bool) → IsTried plan m c ways r s from to found
    → r ≢ s → found ≡ is_linked plan c
linked_is plan m c ways r s from to found t apart =
    let sender = resource_of plan (pair_of c).0.at in
    let receiver = resource_of plan (pair_of c).1.at in
    let joining : Name × Name → Bool = λ x. list_any (is_joining x.0 x.1) plan.links in
    let differ : nat_eq sender receiver ≡ false =
    false_from_ne_true (nat_eq sender receiver) (λ h.
    let one : sender ≡ receiver = grind (arith, nat_tests, h) in
    apart (sends_is plan m c.from r t.holds t.sends ∙ one ∙ sym (sends_is plan m c.to s t.holds t.receives))) in
    t.found_is
    ∙ same_Decides (set.contains pair_cmp ways (from, to)) (joining (names from.now to.now)) (Contains (map names_of_link plan.links) (names from.now to.now))
    (t.ways_are.has from.now to.now) (link_found plan.links from.now to.now)
    ∙ ap joining (tried_names plan m c ways r s from to found t)
    ∙ sym (ap (λ b. b || joining (names (name_of_resource plan sender) (name_of_resource plan receiver))) differ)

-- ---- All connections

-- two resources apart, with no link
apart : (plan : Plan) (r s : ℕ) → are_linked plan r s ≡ false → (r ≢ s) × (link_between plan r s ≡ None)
apart plan r s h =
    let joining = is_joining (name_of_resource plan r) (name_of_resource plan s) in
    elim (nat_eq r s) as (λ b. nat_eq r s ≡ b → (b || list_any joining plan.links) ≡ false → (r ≢ s) × (link_between plan r s ≡ None)) [
      | true ↦ λ e g. absurd (true≢false g)
      | false ↦ λ e g. (
        λ same. true≢false (sym (let at : nat_eq r s ≡ true = grind (arith, nat_tests, same) in at) ∙ e),
        none_from_is_some (link_between plan r s) (is_some-position joining plan.links ∙ g),
      )
    ] refl h

-- and these are not linked
not_linked : (plan : Plan) (r s : ℕ) → r ≢ s → link_between plan r s ≡ None → are_linked plan r s ≡ true → ⊥
not_linked plan r s crossing none h =
    let joining = is_joining (name_of_resource plan r) (name_of_resource plan s) in
    elim (nat_eq r s) as (λ b. nat_eq r s ≡ b → (b || list_any joining plan.links) ≡ true → ⊥) [
      | true ↦ λ e g. crossing (let at : r ≡ s = grind (arith, nat_tests, e) in at)
      | false ↦ λ e g. true≢false (sym g ∙ sym (is_some-position joining plan.links) ∙ ap is_some none)
    ] refl h

each_of_flow :
    (lib : Library) (plan : Plan) (f : FlowKind) (cs : List Connection) → connections_of f lib.application.network ≡ cs → All (IsNoLinkAt lib plan) (each_at (no_link_at plan f) cs)
each_of_flow lib plan f cs all =
    all_each (IsNoLinkAt lib plan) (no_link_at plan f) cs
    (λ k c at. all_unless (IsNoLinkAt lib plan) (is_linked plan c) (record { flow = f; connection = k }) (λ e.
    let a = apart plan (resource_of plan (pair_of c).0.at) (resource_of plan (pair_of c).1.at) e in
    record { at_index = c; found = ap (λ (cs : List Connection). slice_get cs k) all ∙ at; crossing = a.0; none = a.1 }))

pub each_no_link : (lib : Library) (plan : Plan) → All (IsNoLinkAt lib plan) (no_link_all lib plan)
each_no_link lib plan =
    let es = lib.application.network.event_connections in
    let ds = lib.application.network.data_connections in
    All-append (IsNoLinkAt lib plan) (each_at (no_link_at plan Events) es) (each_at (no_link_at plan Data) ds) (each_of_flow lib plan Events es refl)
    (each_of_flow lib plan Data ds refl)

-- if each connection is linked, none of their pairs lacks a link
linked_pairs :
    (plan : Plan) (f : FlowKind) (cs : List Connection) (p : Port × Port) → each_at (no_link_at plan f) cs ≡ [] → Contains (map pair_of cs) p → IsCrossing plan p
    → link_between plan (resource_of plan p.0.at) (resource_of plan p.1.at) ≡ None → ⊥
linked_pairs plan f cs p h c crossing none =
    let r = map-Contains pair_of cs p c in
    let all : list_all (is_linked plan) cs ≡ true =
    none_each (no_link_at plan f) (is_linked plan) cs (λ k c e. none_unless (is_linked plan c) (record { flow = f; connection = k }) e) h in
    let q : Port × Port = pair_of r.0 in
    not_linked plan (resource_of plan q.0.at) (resource_of plan q.1.at)
    (subst (λ (p : Port × Port). IsCrossing plan p) (sym r.2) crossing)
    (subst (λ (p : Port × Port). link_between plan (resource_of plan p.0.at) (resource_of plan p.1.at) ≡ None) (sym r.2) none)
    (passes_at (is_linked plan) cs r.0 all r.1)

pub none_no_link : (lib : Library) (plan : Plan) → no_link_all lib plan ≡ [] → ¬ (NoLink lib plan)
none_no_link lib plan h w =
    let es = lib.application.network.event_connections in
    let ds = lib.application.network.data_connections in
    let events = each_at (no_link_at plan Events) es in
    let values = each_at (no_link_at plan Data) ds in
    elim (Contains-append_cases (event_pairs_of lib) (data_pairs_of lib) w.0 w.1) [
      | inl c ↦ linked_pairs plan Events es w.0 (none_left events values h) c w.2 w.3
      | inr c ↦ linked_pairs plan Data ds w.0 (none_right events values h) c w.2 w.3
    ]

pair_there : (lib : Library) (f : FlowKind) (c : Connection) → Contains (connections_of f lib.application.network) c → Contains (event_pairs_of lib ++ data_pairs_of lib) (pair_of c)
pair_there lib Events c there =
    Contains-append_left (event_pairs_of lib) (data_pairs_of lib) (pair_of c) (Contains-map pair_of lib.application.network.event_connections c there)
pair_there lib Data c there =
    Contains-append_right (event_pairs_of lib) (data_pairs_of lib) (pair_of c) (Contains-map pair_of lib.application.network.data_connections c there)

pub no_link_applies : (lib : Library) (plan : Plan) (u : NoLinkAt) → IsNoLinkAt lib plan u → NoLink lib plan
no_link_applies lib plan u h =
    (pair_of h.at_index, pair_there lib u.flow h.at_index (element_of_index (connections_of u.flow lib.application.network) u.connection h.at_index h.found), h.crossing, h.none)
