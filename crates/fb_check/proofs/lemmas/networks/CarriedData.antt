-- What the event connections so far carry.
use Rattle.fb_types.proofs.Common.{◌≡◌, ◌⊎◌, ℕ, ◌<◌, ◌≤◌, ◌+◌, Bool, true, false, not, cond, List, [], ◌∷◌, ◌++◌, length, take, get_or, Option, Some, None, Contains, Bor, refl, sym, ◌∙◌, ap, subst, inl, inr, arith, is_eq, take_more, take_all, Contains-append_left, Contains-push, Contains-push_cases, Name, Port, port_in, resource_of}
use Rattle.fb_types.specs.declared.library.Library.{Library}
use Rattle.fb_types.specs.declared.library.Connection.{Connection}
use Rattle.fb_types.specs.declared.library.PortName.{PortName}
use Rattle.fb_types.specs.declared.deploy.Plan.{Plan}
use Rattle.std.specs.BTreeSet as set
use Rattle.fb_types.proofs.lemmas.lists.Elements.{Contains-nil, Contains-map, map-Contains}
use Rattle.fb_check.specs.networks.Mapping.{IsHolding, resource_in}
use Rattle.fb_check.specs.networks.Links.{pair_of}
use Rattle.fb_check.specs.networks.Serving.{Lead, lead_cmp, lead_port, path_of, withs_of, IsExtended, Serves, AreServed}
use Rattle.fb_check.specs.declared.networks.mapping.Mapping.{Mapping}
use Rattle.fb_check.proofs.lemmas.networks.NoLink.{resource-is}
use Rattle.fb_check.proofs.lemmas.networks.SetsOfSeen.{Has, has_none, has_more, lead_view, lead_cmp-exact}

-- ---- One list of names

pub extended_none : (component : Option (Bor Name)) (resource : ℕ) (s : set.BTreeSet Lead) → IsExtended component [] resource s s
extended_none component resource s = record {
  has = λ k. (λ h. inl h, λ x. elim x [ inl there ↦ there | inr new ↦ absurd (Contains-nil (lead_port k).name new.1) ]);
}

abbrev IsAdded : Option (Bor Name) → List Name → ℕ → set.BTreeSet Lead → Lead → Type 0
IsAdded component names resource old k =
    (set.contains lead_cmp old k ≡ true) ⊎ ((path_of component ≡ (lead_port k).at) × Contains names (lead_port k).name × (resource ≡ k.2))

pub extended_more :
    (component : Option (Bor Name)) (names : List Name) (i : ℕ) (n : Name) (resource : ℕ) (old s t : set.BTreeSet Lead) (b : Bor Name)
    → i < length names → n ≡ get_or names i n → b.now ≡ n → IsExtended component (take i names) resource old s
    → ((q : Lead) → set.contains lead_cmp t q ≡ cond (is_eq (lead_cmp (component, b, resource) q)) true (set.contains lead_cmp s q))
    → IsExtended component (take (i + 1) names) resource old t
extended_more component names i n resource old s t b h e g ext updates =
    let key : Lead = (component, b, resource) in
    let before = take i names in
    let grown : before ++ b.now ∷ [] ≡ take (i + 1) names =
    ap (λ (n : Name). before ++ n ∷ []) (g ∙ e) ∙ sym (take_more names i n h) in
    let X : List Name → Type 0 = λ ns. IsExtended component ns resource old t in
    subst X grown (record {
      has = has_more lead_cmp lead_view (IsAdded component before resource old) (IsAdded component (before ++ b.now ∷ []) resource old) s t key lead_cmp-exact ext.has updates
          (λ q x. elim x [
            | inl there ↦ inl there
            | inr new ↦ inr (new.0, Contains-append_left before (b.now ∷ []) (lead_port q).name new.1, new.2)
          ])
          (λ q same.
          let N : Name → Type 0 = λ n. Contains (before ++ b.now ∷ []) n in
          inr (ap (λ (x : Port × ℕ). x.0.at) same, subst N (ap (λ (x : Port × ℕ). x.0.name) same) (Contains-push before b.now), ap (λ (x : Port × ℕ). x.1) same))
          (λ q x. elim x [
            | inl there ↦ inl (inl there)
            | inr new ↦ elim (Contains-push_cases before b.now (lead_port q).name new.1) [
              | inl there ↦ inl (inr (new.0, there, new.2))
              | inr same ↦ inr (λ j. (record { at = new.0 j; name = same j }, new.2 j))
            ]
          ]);
    })

-- ---- The connections so far

-- the port at which a connection begins, with the resource to which it leads
abbrev lead_of : Mapping → Connection → Port × ℕ
lead_of m c = (port_in [] c.from, resource_in m c.to)

-- a connection begins at a port and leads to a resource
abbrev pub LeadsTo : Mapping → List Connection → Port × ℕ → Type 0
LeadsTo m cs y = (c : Connection) × Contains cs c × (port_in [] c.from ≡ y.0) × (resource_in m c.to ≡ y.1)

-- a connection carries a variable to a resource
abbrev pub Carries : Library → Mapping → List Connection → Port × ℕ → Type 0
Carries lib m cs y =
    (c : Connection) × Contains cs c × ((port_in [] c.from).at ≡ y.0.at) × Contains (withs_of lib (port_in [] c.from)) y.0.name × (resource_in m c.to ≡ y.1)

pub record AreCarried (lib : Library) (m : Mapping) (cs : List Connection) (events served : set.BTreeSet Lead) : Type 0 where
  pub events_are : Has lead_cmp lead_view (LeadsTo m cs) events
  pub served_are : Has lead_cmp lead_view (Carries lib m cs) served

pub carried_none : (lib : Library) (m : Mapping) (events served : set.BTreeSet Lead) → events.keys ≡ [] → served.keys ≡ [] → AreCarried lib m [] events served
carried_none lib m events served e f = record {
  events_are = has_none lead_cmp lead_view (LeadsTo m []) events e (λ y x. Contains-nil x.0 x.1);
  served_are = has_none lead_cmp lead_view (Carries lib m []) served f (λ y x. Contains-nil x.0 x.1);
}

pub port-is : (p : PortName) → record { at = (port_in [] p).at; name = p.port } ≡ port_in [] p
port-is p =
    elim p.component as (λ o. record { at = (elim o as (λ _. Port) [ None ↦ record { at = []; name = p.port } | Some c ↦ record { at = c ∷ []; name = p.port } ]).at; name = p.port } ≡ elim o as (λ _. Port) [ None ↦ record { at = []; name = p.port } | Some c ↦ record { at = c ∷ []; name = p.port } ]) [
      | None ↦ refl
      | Some c ↦ refl
    ]

-- what the code takes for a connection: the names at which it begins, and the resource to which it leads
pub record IsLead (m : Mapping) (c : Connection) (component : Option (Bor Name)) (b : Bor Name) (resource : ℕ) : Type 0 where
  pub at : path_of component ≡ (port_in [] c.from).at
  pub name : b.now ≡ c.from.port
  pub leads : resource ≡ resource_in m c.to

pub lead_port-is : (m : Mapping) (c : Connection) (component : Option (Bor Name)) (b : Bor Name) (resource : ℕ) → IsLead m c component b resource
    → lead_port (component, b, resource) ≡ port_in [] c.from
lead_port-is m c component b resource is = (λ i. record { at = is.at i; name = is.name i }) ∙ port-is c.from

pub lead-is : (m : Mapping) (c : Connection) (component : Option (Bor Name)) (b : Bor Name) (resource : ℕ) → IsLead m c component b resource
    → lead_view (component, b, resource) ≡ lead_of m c
lead-is m c component b resource is =
    let p = lead_port-is m c component b resource is in λ i. (p i, is.leads i)

events_push :
    (m : Mapping) (cs : List Connection) (c : Connection) (component : Option (Bor Name)) (b : Bor Name) (resource : ℕ) (s t : set.BTreeSet Lead) → IsLead m c component b resource
    → Has lead_cmp lead_view (LeadsTo m cs) s
    → ((q : Lead) → set.contains lead_cmp t q ≡ cond (is_eq (lead_cmp (component, b, resource) q)) true (set.contains lead_cmp s q))
    → Has lead_cmp lead_view (LeadsTo m (cs ++ c ∷ [])) t
events_push m cs c component b resource s t is has updates =
    let key : Lead = (component, b, resource) in
    let view = lead-is m c component b resource is in
    has_more lead_cmp lead_view (λ (q : Lead). LeadsTo m cs (lead_view q)) (λ (q : Lead). LeadsTo m (cs ++ c ∷ []) (lead_view q)) s t key lead_cmp-exact has updates
    (λ q x. (x.0, Contains-append_left cs (c ∷ []) x.0 x.1, x.2, x.3))
    (λ q same.
    let e : lead_of m c ≡ lead_view q = sym view ∙ same in
    (c, Contains-push cs c, ap (λ (x : Port × ℕ). x.0) e, ap (λ (x : Port × ℕ). x.1) e))
    (λ q x. elim (Contains-push_cases cs c x.0 x.1) [
      | inl old ↦ inl (x.0, old, x.2, x.3)
      | inr same ↦
          let e : lead_of m x.0 ≡ lead_view q = λ i. (x.2 i, x.3 i) in
          inr (view ∙ ap (lead_of m) same ∙ e)
    ])

-- ---- A connection whose event and resource were there before

carried_again :
    (lib : Library) (m : Mapping) (cs : List Connection) (c : Connection) (y : Port × ℕ) → LeadsTo m cs (lead_of m c)
    → Carries lib m (cs ++ c ∷ []) y → Carries lib m cs y
carried_again lib m cs c y before x =
    elim (Contains-push_cases cs c x.0 x.1) [
      | inl old ↦ (x.0, old, x.2, x.3, x.4)
      | inr same ↦
          let from : port_in [] before.0.from ≡ port_in [] x.0.from = before.2 ∙ ap (λ (d : Connection). port_in [] d.from) same in
          let N : Port → Type 0 = λ p. Contains (withs_of lib p) y.0.name in
          (before.0, before.1, ap (λ (p : Port). p.at) from ∙ x.2, subst N (sym from) x.3, before.3 ∙ ap (λ (d : Connection). resource_in m d.to) same ∙ x.4)
    ]

served_again :
    (lib : Library) (m : Mapping) (cs : List Connection) (c : Connection) (s : set.BTreeSet Lead) → LeadsTo m cs (lead_of m c)
    → Has lead_cmp lead_view (Carries lib m cs) s → Has lead_cmp lead_view (Carries lib m (cs ++ c ∷ [])) s
served_again lib m cs c s before has q = (
  λ h. let x = (has q).0 h in (x.0, Contains-append_left cs (c ∷ []) x.0 x.1, x.2, x.3, x.4),
  λ x. (has q).1 (carried_again lib m cs c (lead_view q) before x),
)

-- ---- A connection whose event and resource are new

served_push :
    (lib : Library) (m : Mapping) (cs : List Connection) (c : Connection) (component : Option (Bor Name)) (b : Bor Name) (resource : ℕ) (names : List Name) (s t : set.BTreeSet Lead)
    → IsLead m c component b resource → names ≡ withs_of lib (port_in [] c.from) → IsExtended component names resource s t
    → Has lead_cmp lead_view (Carries lib m cs) s → Has lead_cmp lead_view (Carries lib m (cs ++ c ∷ [])) t
served_push lib m cs c component b resource names s t is with_is ext has q =
    let N : List Name → Type 0 = λ ns. Contains ns (lead_port q).name in (
      λ h. elim ((ext.has q).0 h) [
        | inl there ↦ let x = (has q).0 there in (x.0, Contains-append_left cs (c ∷ []) x.0 x.1, x.2, x.3, x.4)
        | inr new ↦ (c, Contains-push cs c, sym is.at ∙ new.0, subst N with_is new.1, sym is.leads ∙ new.2)
      ],
      λ x. elim (Contains-push_cases cs c x.0 x.1) [
        | inl old ↦ (ext.has q).1 (inl ((has q).1 (x.0, old, x.2, x.3, x.4)))
        | inr same ↦
            let M : Port → Type 0 = λ p. Contains (withs_of lib p) (lead_port q).name in
            let from : port_in [] x.0.from ≡ port_in [] c.from = ap (λ (d : Connection). port_in [] d.from) (sym same) in
            (ext.has q).1 (inr (is.at ∙ sym (ap (λ (p : Port). p.at) from) ∙ x.2, subst N (sym with_is) (subst M from x.3), is.leads ∙ ap (λ (d : Connection). resource_in m d.to) same ∙ x.4))
      ],
    )

-- ---- The steps of the loop

grown : (cs : List Connection) (i : ℕ) (c : Connection) → i < length cs → c ≡ get_or cs i c → take i cs ++ c ∷ [] ≡ take (i + 1) cs
grown cs i c h e = ap (λ (d : Connection). take i cs ++ d ∷ []) e ∙ sym (take_more cs i c h)

pub carried_old :
    (lib : Library) (m : Mapping) (cs : List Connection) (i : ℕ) (c : Connection) (component : Option (Bor Name)) (b : Bor Name) (resource : ℕ) (events more served : set.BTreeSet Lead) (added : Bool)
    → i < length cs → c ≡ get_or cs i c → IsLead m c component b resource → AreCarried lib m (take i cs) events served
    → added ≡ not (set.contains lead_cmp events (component, b, resource)) → added ≡ false
    → ((q : Lead) → set.contains lead_cmp more q ≡ cond (is_eq (lead_cmp (component, b, resource) q)) true (set.contains lead_cmp events q))
    → AreCarried lib m (take (i + 1) cs) more served
carried_old lib m cs i c component b resource events more served added h e is are test again updates =
    let X : List Connection → Type 0 = λ cs. AreCarried lib m cs more served in
    let there : set.contains lead_cmp events (component, b, resource) ≡ true = grind (arith, test, again) in
    let L : Port × ℕ → Type 0 = λ y. LeadsTo m (take i cs) y in
    let before = subst L (lead-is m c component b resource is) ((are.events_are (component, b, resource)).0 there) in
    subst X (grown cs i c h e) (record {
      events_are = events_push m (take i cs) c component b resource events more is are.events_are updates;
      served_are = served_again lib m (take i cs) c served before are.served_are;
    })

pub carried_new :
    (lib : Library) (m : Mapping) (cs : List Connection) (i : ℕ) (c : Connection) (component : Option (Bor Name)) (b : Bor Name) (resource : ℕ) (names : List Name) (events more served extended : set.BTreeSet Lead)
    → i < length cs → c ≡ get_or cs i c → IsLead m c component b resource → AreCarried lib m (take i cs) events served
    → names ≡ withs_of lib (port_in [] c.from) → IsExtended component names resource served extended
    → ((q : Lead) → set.contains lead_cmp more q ≡ cond (is_eq (lead_cmp (component, b, resource) q)) true (set.contains lead_cmp events q))
    → AreCarried lib m (take (i + 1) cs) more extended
carried_new lib m cs i c component b resource names events more served extended h e is are with_is ext updates =
    let X : List Connection → Type 0 = λ cs. AreCarried lib m cs more extended in
    subst X (grown cs i c h e) (record {
      events_are = events_push m (take i cs) c component b resource events more is are.events_are updates;
      served_are = served_push lib m (take i cs) c component b resource names served extended is with_is ext are.served_are;
    })

-- ---- All connections

serves_from : (lib : Library) (plan : Plan) (m : Mapping) (y : Port × ℕ) → IsHolding plan m → Carries lib m lib.application.network.event_connections y → Serves lib plan y.0 y.1
serves_from lib plan m y holds x =
    (pair_of x.0, Contains-map pair_of lib.application.network.event_connections x.0 x.1, x.2, x.3, sym (resource-is plan m x.0.to holds) ∙ x.4)

carries_from : (lib : Library) (plan : Plan) (m : Mapping) (y : Port × ℕ) → IsHolding plan m → Serves lib plan y.0 y.1 → Carries lib m lib.application.network.event_connections y
carries_from lib plan m y holds x =
    let d = map-Contains pair_of lib.application.network.event_connections x.0 x.1 in
    let N : Port → Type 0 = λ p. Contains (withs_of lib p) y.0.name in
    let from : port_in [] d.0.from ≡ x.0.0 = ap (λ (e : Port × Port). e.0) d.2 in
    (d.0, d.1, ap (λ (p : Port). p.at) from ∙ x.2, subst N (sym from) x.3, resource-is plan m d.0.to holds ∙ ap (λ (e : Port × Port). resource_of plan e.1.at) d.2 ∙ x.4)

pub all_served :
    (lib : Library) (plan : Plan) (m : Mapping) (cs : List Connection) (i : ℕ) (events served : set.BTreeSet Lead) → IsHolding plan m
    → cs ≡ lib.application.network.event_connections → length cs ≤ i → AreCarried lib m (take i cs) events served → AreServed lib plan served
all_served lib plan m cs i events served holds all ended are =
    let X : List Connection → Type 0 = λ cs. AreCarried lib m cs events served in
    let done : AreCarried lib m lib.application.network.event_connections events served = subst X (take_all i cs ended ∙ all) are in
    record {
      has = λ k. (
        λ h. serves_from lib plan m (lead_view k) holds ((done.served_are k).0 h),
        λ x. (done.served_are k).1 (carries_from lib plan m (lead_view k) holds x),
      );
    }
