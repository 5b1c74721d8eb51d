-- Data connections that no event serves.
use Rattle.fb_check.proofs.lemmas.Common.{◌≡◌, ◌≢◌, ◌&&◌, ◌||◌, ℕ, Bool, true, false, List, [], ◌∷◌, Option, Some, None, Contains, Bor, refl, sym, ◌∙◌, ap, subst, inl, inr, arith, All, is_some, nat_eq, list_any, Decides, true≢false, false_from_ne_true, and_parts, nat_tests, Name, Port, same_name, Kind, ports_of, event_names, variable_names, port_in, NameTwice, Twice, data_outs, Library, Connection, PortName, Plan, IsNetwork, NetworkNumbers}
use Rattle.fb_types.proofs.Common.{same_path, outputs_with, resource_of, kind_at}
use Rattle.std.specs.BTreeSet as set
use Rattle.fb_types.specs.Mapped.{IsCrossing, IsServed, NoEvent}
use Rattle.fb_types.proofs.lemmas.lists.ByIndex.{element_of_index}
use Rattle.fb_types.proofs.lemmas.lists.ListTests.{passes_at, passes_somewhere}
use Rattle.fb_types.proofs.lemmas.lists.Positions.{is_some-position}
use Rattle.fb_types.proofs.lemmas.names.NameLaws.{any_from_contains, contains_from_any}
use Rattle.fb_types.proofs.lemmas.names.PathLaws.{same_path_is, same_path_itself}
use Rattle.fb_check_names.proofs.lemmas.Listing.{all_each, all_unless, none_each, none_unless}
use Rattle.fb_check_names.proofs.lemmas.twice.Repeating.{same_Decides}
use Rattle.fb_check.specs.networks.Mapping.{IsHolding, resource_in}
use Rattle.fb_check.specs.networks.Links.{pair_of}
use Rattle.fb_check.specs.networks.Serving.{Lead, lead_cmp, Serves, AreServed, listed_with, withs_of}
use Rattle.fb_check.specs.networks.NoEvent.{IsNoEventAt, begin_together, brings, carries, end_together, is_served, no_event_all, no_event_at}
use Rattle.fb_types.proofs.lemmas.lists.Elements.{Contains-nil, Contains-cons_cases, Contains-map, map-Contains}
use Rattle.fb_check.specs.declared.networks.mapping.Mapping.{Mapping}
use Rattle.fb_check.proofs.lemmas.networks.CarriedData.{IsLead, lead-is}
use Rattle.fb_check.proofs.lemmas.networks.Numbers.{data_known, known_port}
use Rattle.fb_check.proofs.lemmas.networks.SetsOfSeen.{lead_view}
use Rattle.fb_check.proofs.lemmas.networks.NoLink.{resource-is}
use Rattle.fb_check.proofs.lemmas.networks.WithVariables.{with_from_listed, listed_from_with, outputs_once}

-- ---- One connection

-- the port at which a connection begins, with the resource to which it leads
abbrev way_of : Plan → Connection → Port × ℕ
way_of plan c = ((pair_of c).0, resource_of plan (pair_of c).1.at)

abbrev with_resource : Port → ℕ → Port × ℕ
with_resource q r = (q, r)

way-is :
    (plan : Plan) (m : Mapping) (c : Connection) (component : Option (Bor Name)) (b : Bor Name) (s : ℕ) → IsHolding plan m → IsLead m c component b s
    → lead_view (component, b, s) ≡ way_of plan c
way-is plan m c component b s holds is =
    lead-is m c component b s is ∙ ap (with_resource (port_in [] c.from)) (resource-is plan m c.to holds)

-- ---- What serves a data connection

-- the type of the instance at which a data connection begins
record IsBegun (lib : Library) (c : Connection) (k : Kind) : Type 0 where
  kind_is : kind_at lib (pair_of c).0.at ≡ Some k
  declared : Contains (variable_names (ports_of k).outputs) (pair_of c).0.name
  once : ¬ (Twice (event_names (ports_of k).event_outputs))

begun :
    (lib : Library) (plan : Plan) (x : NetworkNumbers) (c : Connection) → ¬ (NameTwice lib plan) → IsNetwork lib (None, lib.application.network) x
    → Contains lib.application.network.data_connections c → (k : Kind) × IsBegun lib c k
begun lib plan x c once network there =
    let d = data_known lib x c network there in
    let k = d.1 in
    let port = known_port lib data_outs c.from d.0 k in
    let outs = variable_names (ports_of k.kind).outputs in
    let N : Name → Type 0 = λ n. Contains outs n in (
      k.kind,
      record {
        kind_is = ap (λ (q : Port). kind_at lib q.at) port ∙ k.kind_is;
        declared = subst N (sym (ap (λ (q : Port). q.name) port))
            (contains_from_any c.from.port outs (sym (is_some-position (same_name c.from.port) outs) ∙ ap is_some k.port_is));
        once = outputs_once lib plan k.instance.block_type k.kind once k.own;
      },
    )

listed_is : (lib : Library) (q : Port) (k : Kind) → kind_at lib q.at ≡ Some k → withs_of lib q ≡ listed_with (ports_of k).event_outputs q.name
listed_is lib q k h = ap (λ (o : Option Kind). elim o as (λ _. List Name) [ None ↦ [] | Some j ↦ listed_with (ports_of j).event_outputs q.name ]) h

served_from : (lib : Library) (plan : Plan) (c : Connection) (k : Kind) → IsBegun lib c k → Serves lib plan (way_of plan c).0 (way_of plan c).1 → IsServed lib plan (pair_of c)
served_from lib plan c k is s =
    let kind = ap (kind_at lib) s.2 ∙ is.kind_is in
    let N : List Name → Type 0 = λ ns. Contains ns (pair_of c).0.name in (
      s.0,
      k,
      s.1,
      s.2,
      is.kind_is,
      with_from_listed (ports_of k).event_outputs (ports_of k).outputs s.0.0.name (pair_of c).0.name is.declared (subst N (listed_is lib s.0.0 k kind) s.3),
      s.4,
    )

serves_from : (lib : Library) (plan : Plan) (c : Connection) (k : Kind) → IsBegun lib c k → IsServed lib plan (pair_of c) → Serves lib plan (way_of plan c).0 (way_of plan c).1
serves_from lib plan c k is s =
    let kinds : Some s.1 ≡ Some k = sym s.4 ∙ is.kind_is in
    let same : s.1 ≡ k = cc in
    let kind = ap (kind_at lib) s.3 ∙ is.kind_is in
    let N : List Name → Type 0 = λ ns. Contains ns (pair_of c).0.name in
    let outs = subst N (ap (λ (j : Kind). outputs_with (ports_of j) s.0.0.name) same) s.5 in (
      s.0,
      s.2,
      s.3,
      subst N (sym (listed_is lib s.0.0 k kind))
          (listed_from_with (ports_of k).event_outputs (ports_of k).outputs s.0.0.name (pair_of c).0.name is.once outs),
      s.6,
    )

-- ---- Tests

or_true : (b : Bool) → (b || true) ≡ true
or_true true = refl
or_true false = refl

pub Contains-any : {A : Type 0} (f : A → Bool) (xs : List A) (x : A) → Contains xs x → f x ≡ true → list_any f xs ≡ true
Contains-any f [] x h e = absurd (Contains-nil x h)
Contains-any f (y ∷ ys) x h e =
    elim (Contains-cons_cases y ys x h) [
      | inl same ↦ ap (λ b. b || list_any f ys) (ap f same ∙ e)
      | inr rest ↦ ap (λ b. f y || b) (Contains-any f ys x rest e) ∙ or_true (f y)
    ]

-- ---- One event

port_name : (q : PortName) → (port_in [] q).name ≡ q.port
port_name q = elim q.component as (λ (o : Option Name). (elim o as (λ _. Port) [ None ↦ record { at = []; name = q.port } | Some c ↦ record { at = c ∷ []; name = q.port } ]).name ≡ q.port) [ None ↦ refl | Some c ↦ refl ]

carried : (o : Option Kind) (e v : Name) → carries o e v ≡ true → (k : Kind) × (o ≡ Some k) × Contains (outputs_with (ports_of k) e) v
carried None e v h = absurd (true≢false (sym h))
carried (Some k) e v h = (k, refl, contains_from_any v (outputs_with (ports_of k) e) h)

served_from_brings :
    (lib : Library) (plan : Plan) (d e : Connection) → Contains lib.application.network.event_connections e → brings lib plan d e ≡ true
    → IsServed lib plan (pair_of d)
served_from_brings lib plan d e there h =
    let both = and_parts (begin_together e d) (carries (kind_at lib (port_in [] d.from).at) e.from.port d.from.port && end_together plan e d) h in
    let more = and_parts (carries (kind_at lib (port_in [] d.from).at) e.from.port d.from.port) (end_together plan e d) both.1 in
    let k = carried (kind_at lib (port_in [] d.from).at) e.from.port d.from.port more.0 in
    let to : resource_of plan (port_in [] e.to).at ≡ resource_of plan (port_in [] d.to).at = let t = more.1 in grind (arith, nat_tests, t) in
    let names : Contains (outputs_with (ports_of k.0) (port_in [] e.from).name) (port_in [] d.from).name =
    subst (λ (n : Name). Contains (outputs_with (ports_of k.0) n) (port_in [] d.from).name) (sym (port_name e.from))
    (subst (λ (n : Name). Contains (outputs_with (ports_of k.0) e.from.port) n) (sym (port_name d.from)) k.2) in (
      pair_of e,
      k.0,
      Contains-map pair_of lib.application.network.event_connections e there,
      same_path_is (port_in [] e.from).at (port_in [] d.from).at both.0,
      k.1,
      names,
      to,
    )

brings_from_served :
    (lib : Library) (plan : Plan) (d : Connection) → IsServed lib plan (pair_of d) → list_any (brings lib plan d) lib.application.network.event_connections ≡ true
brings_from_served lib plan d w =
    let all = lib.application.network.event_connections in
    let r = map-Contains pair_of all w.0 w.2 in
    let e = r.0 in
    let from : (port_in [] e.from).at ≡ (port_in [] d.from).at = ap (λ (p : Port × Port). p.0.at) r.2 ∙ w.3 in
    let one : begin_together e d ≡ true = ap (λ p. same_path p (port_in [] d.from).at) from ∙ same_path_itself (port_in [] d.from).at in
    let name : w.0.0.name ≡ e.from.port = sym (ap (λ (p : Port × Port). p.0.name) r.2) ∙ port_name e.from in
    let listed : Contains (outputs_with (ports_of w.1) e.from.port) d.from.port =
    subst (λ (n : Name). Contains (outputs_with (ports_of w.1) n) d.from.port) name
    (subst (λ (n : Name). Contains (outputs_with (ports_of w.1) w.0.0.name) n) (port_name d.from) w.5) in
    let two : carries (kind_at lib (port_in [] d.from).at) e.from.port d.from.port ≡ true =
    ap (λ o. carries o e.from.port d.from.port) w.4 ∙ any_from_contains d.from.port (outputs_with (ports_of w.1) e.from.port) listed in
    let to : resource_of plan (port_in [] e.to).at ≡ resource_of plan (port_in [] d.to).at =
    ap (λ (p : Port × Port). resource_of plan p.1.at) r.2 ∙ w.6 in
    let three : end_together plan e d ≡ true = grind (arith, nat_tests, to) in
    let all_three : brings lib plan d e ≡ true = λ i. one i && (two i && three i) in
    Contains-any (brings lib plan d) all e r.1 all_three

-- ---- One data connection

-- the result for a connection whose ends one resource holds
pub served_same :
    (lib : Library) (plan : Plan) (m : Mapping) (c : Connection) (r s : ℕ) → IsHolding plan m → r ≡ resource_in m c.from → s ≡ resource_in m c.to → r ≡ s
    → true ≡ is_served lib plan c
served_same lib plan m c r s holds sends receives same =
    let from = resource_of plan (pair_of c).0.at in
    let to = resource_of plan (pair_of c).1.at in
    let one : from ≡ to = sym (sends ∙ resource-is plan m c.from holds) ∙ same ∙ receives ∙ resource-is plan m c.to holds in
    let equal : nat_eq from to ≡ true = grind (arith, nat_tests, one) in
    sym (ap (λ b. b || list_any (brings lib plan c) lib.application.network.event_connections) equal)

-- an event brings the data exactly if one serves the connection
any_brings : (lib : Library) (plan : Plan) (d : Connection) → Decides (list_any (brings lib plan d) lib.application.network.event_connections) (IsServed lib plan (pair_of d))
any_brings lib plan d = (
  λ h. let w = passes_somewhere (brings lib plan d) lib.application.network.event_connections h in served_from_brings lib plan d w.0 w.1 w.2,
  brings_from_served lib plan d,
)

-- the result for a connection whose ends are in two resources
pub served_is :
    (lib : Library) (plan : Plan) (m : Mapping) (x : NetworkNumbers) (c : Connection) (served : set.BTreeSet Lead) (component : Option (Bor Name)) (b : Bor Name) (r s : ℕ) (found : Bool)
    → ¬ (NameTwice lib plan) → IsHolding plan m → IsNetwork lib (None, lib.application.network) x → AreServed lib plan served
    → Contains lib.application.network.data_connections c → r ≡ resource_in m c.from → IsLead m c component b s → r ≢ s
    → found ≡ set.contains lead_cmp served (component, b, s) → found ≡ is_served lib plan c
served_is lib plan m x c served component b r s found once holds network are there sends is apart found_is =
    let sender = resource_of plan (pair_of c).0.at in
    let receiver = resource_of plan (pair_of c).1.at in
    let S : Port × ℕ → Type 0 = λ y. Serves lib plan y.0 y.1 in
    let any = list_any (brings lib plan c) lib.application.network.event_connections in
    let way = way-is plan m c component b s holds is in
    let k = begun lib plan x c once network there in
    let differ : nat_eq sender receiver ≡ false =
    false_from_ne_true (nat_eq sender receiver) (λ h.
    let one : sender ≡ receiver = grind (arith, nat_tests, h) in
    apart (sends ∙ resource-is plan m c.from holds ∙ one ∙ sym (is.leads ∙ resource-is plan m c.to holds))) in
    let decides : Decides (set.contains lead_cmp served (component, b, s)) (IsServed lib plan (pair_of c)) = (
      λ h. served_from lib plan c k.0 k.1 (subst S way ((are.has (component, b, s)).0 h)),
      λ w. (are.has (component, b, s)).1 (subst S (sym way) (serves_from lib plan c k.0 k.1 w)),
    ) in
    found_is ∙ same_Decides (set.contains lead_cmp served (component, b, s)) any (IsServed lib plan (pair_of c)) decides (any_brings lib plan c) ∙ sym (ap (λ b. b || any) differ)

-- ---- All data connections

no_event : (lib : Library) (plan : Plan) (d : Connection) → is_served lib plan d ≡ false → IsCrossing plan (pair_of d) × ¬ (IsServed lib plan (pair_of d))
no_event lib plan d h =
    let all = lib.application.network.event_connections in
    let r = resource_of plan (port_in [] d.from).at in
    let s = resource_of plan (port_in [] d.to).at in
    elim (nat_eq r s) as (λ b. nat_eq r s ≡ b → (b || list_any (brings lib plan d) all) ≡ false → IsCrossing plan (pair_of d) × ¬ (IsServed lib plan (pair_of d))) [
      | true ↦ λ e g. absurd (true≢false g)
      | false ↦ λ e g. (
        λ same. true≢false (sym (let at : nat_eq r s ≡ true = grind (arith, nat_tests, same) in at) ∙ e),
        λ w. true≢false (sym (brings_from_served lib plan d w) ∙ g),
      )
    ] refl h

served : (lib : Library) (plan : Plan) (d : Connection) → is_served lib plan d ≡ true → IsCrossing plan (pair_of d) → IsServed lib plan (pair_of d)
served lib plan d h crossing =
    let all = lib.application.network.event_connections in
    let r = resource_of plan (port_in [] d.from).at in
    let s = resource_of plan (port_in [] d.to).at in
    elim (nat_eq r s) as (λ b. nat_eq r s ≡ b → (b || list_any (brings lib plan d) all) ≡ true → IsServed lib plan (pair_of d)) [
      | true ↦ λ e g. absurd (crossing (let at : r ≡ s = grind (arith, nat_tests, e) in at))
      | false ↦ λ e g. let w = passes_somewhere (brings lib plan d) all g in served_from_brings lib plan d w.0 w.1 w.2
    ] refl h

pub each_no_event : (lib : Library) (plan : Plan) → All (IsNoEventAt lib plan) (no_event_all lib plan)
each_no_event lib plan =
    all_each (IsNoEventAt lib plan) (no_event_at lib plan) lib.application.network.data_connections
    (λ k c at. all_unless (IsNoEventAt lib plan) (is_served lib plan c) k (λ e.
    let u = no_event lib plan c e in record { at_index = c; found = at; crossing = u.0; alone = u.1 }))

pub none_no_event : (lib : Library) (plan : Plan) → no_event_all lib plan ≡ [] → ¬ (NoEvent lib plan)
none_no_event lib plan h w =
    let ds = lib.application.network.data_connections in
    let r = map-Contains pair_of ds w.0 w.1 in
    let all = none_each (no_event_at lib plan) (is_served lib plan) ds (λ k c e. none_unless (is_served lib plan c) k e) h in
    w.3 (subst (λ (p : Port × Port). IsServed lib plan p) r.2
    (served lib plan r.0 (passes_at (is_served lib plan) ds r.0 all r.1) (subst (λ (p : Port × Port). IsCrossing plan p) (sym r.2) w.2)))

pub no_event_applies : (lib : Library) (plan : Plan) (k : ℕ) → IsNoEventAt lib plan k → NoEvent lib plan
no_event_applies lib plan k h =
    (pair_of h.at_index, Contains-map pair_of lib.application.network.data_connections h.at_index (element_of_index lib.application.network.data_connections k h.at_index h.found), h.crossing, h.alone)
