-- A data connection leads to a variable that holds all values of its source.
use Rattle.fb_types.proofs.Common.{◌≡◌, ◌⊎◌, inl, inr, ⊎_elim, refl, subst, ap, ◌∙◌, Bool, true, false, cond, List, [], ◌∷◌, map, Option, Some, None, Contains, option_and_then, Contains-append_cases, Name, Path, Port, same_port, Kind, Composite, ports_of, among, first_of, parent, port_in, pairs_in, instance_in, kind_of_instance, network_at, kind_at, data_inside, source_of, is_end, same_Some}
use Rattle.fb_types.specs.declared.library.Library.{Library}
use Rattle.fb_types.specs.declared.library.CompositeType.{CompositeType}
use Rattle.fb_types.specs.declared.library.Connection.{Connection}
use Rattle.fb_types.specs.declared.library.Network.{Network}
use Rattle.fb_types.specs.declared.library.PortName.{PortName}
use Rattle.fb_types.specs.declared.library.Ports.{Ports}
use Rattle.std.proofs.Common.{filter}
use Rattle.fb_types.specs.Flat.{data_at}
use Rattle.fb_types.specs.Joined.{type_among, type_at_end}
use Rattle.fb_types.proofs.lemmas.names.PathLaws.{same_port_is}
use Rattle.fb_types.proofs.lemmas.lists.Elements.{Contains-nil, Contains-here, Contains-there, map-Contains}

-- ---- The connection that leads to a port

-- one of the pairs, from the first to the second
Leads : List (Port × Port) → Port → Port → Type 0
Leads cs s q = (c : Port × Port) × Contains cs c × (c.0 ≡ s) × (c.1 ≡ q)

first-leads : (q s : Port) (cs : List (Port × Port)) → first_of (map (λ c. c.0) (filter (λ c. same_port c.1 q) cs)) ≡ Some s → Leads cs s q
unfolding Leads
first-leads q s [] h = absurd cc
first-leads q s (c ∷ cs) h = go (same_port c.1 q) refl h (first-leads q s cs)
  where
    rest : List (Port × Port)
    rest = filter (λ (d : Port × Port). same_port d.1 q) cs

    go : (b : Bool) → same_port c.1 q ≡ b → first_of (map (λ (d : Port × Port). d.0) (cond b (c ∷ rest) rest)) ≡ Some s
        → (first_of (map (λ (d : Port × Port). d.0) rest) ≡ Some s → Leads cs s q) → Leads (c ∷ cs) s q
    go true e h more = (c, Contains-here c cs, same_Some c.0 s h, same_port_is c.1 q e)
    go false e h more = let m = more h in (m.0, Contains-there c cs m.0 m.1, m.2, m.3)

-- A connection of the network at a path leads from the source to the port.
pub record IsLed (lib : Library) (s q : Port) : Type 0 where
  pub path : Path
  pub network : Network
  pub there : network_at lib path ≡ Some network
  pub connection : Connection
  pub known : Contains network.data_connections connection
  pub from : port_in path connection.from ≡ s
  pub to : port_in path connection.to ≡ q

inside-led : (lib : Library) (p : Path) (c : Port × Port) → Contains (data_inside lib p) c → IsLed lib c.0 c.1
inside-led lib p c h = go (network_at lib p) refl h
  where
    go : (o : Option Network) → network_at lib p ≡ o → Contains (elim o [ None ↦ [] | Some net ↦ pairs_in p net.data_connections ]) c → IsLed lib c.0 c.1
    go None e h = absurd (Contains-nil c h)
    go (Some net) e h =
        let x = map-Contains (λ (d : Connection). (port_in p d.from, port_in p d.to)) net.data_connections c h in record {
          path = p;
          network = net;
          there = e;
          connection = x.0;
          known = x.1;
          from = ap (λ (z : Port × Port). z.0) x.2;
          to = ap (λ (z : Port × Port). z.1) x.2;
        }

pub source-led : (lib : Library) (q s : Port) → source_of lib q ≡ Some s → IsLed lib s q
unfolding Leads
source-led lib q s h =
    let l = first-leads q s (data_at lib q.at) h in
    let led : IsLed lib l.0.0 l.0.1 =
    ⊎_elim (inside-led lib (parent q.at) l.0) (inside-led lib q.at l.0)
    (Contains-append_cases (data_inside lib (parent q.at)) (data_inside lib q.at) l.0 l.1) in
    subst (λ (z : Port). IsLed lib s z) l.3 (subst (λ (z : Port). IsLed lib z l.0.1) l.2 led)

-- ---- The ends of a connection

-- The end of a connection: a kind with such a port, whose type is the type there.
pub record IsEnd (lib : Library) (p : Path) (net : Network) (o : Option CompositeType) (component boundary : Ports → List Name) (e : PortName) : Type 0 where
  pub kind : Kind
  pub there : kind_at lib (port_in p e).at ≡ Some kind
  pub named : (among (component (ports_of kind)) e.port ≡ true) ⊎ (among (boundary (ports_of kind)) e.port ≡ true)
  pub type : type_at_end lib (o, net) e ≡ type_among (ports_of kind) e

module _ (lib : Library) (p : Path) (net : Network) (there : network_at lib p ≡ Some net) (o : Option CompositeType)
    (around : (t : CompositeType) → o ≡ Some t → kind_at lib p ≡ Some (Composite t)) (component boundary : Ports → List Name) where
  boundary-end : (n : Name) → is_end lib (o, net) component boundary (record { component = None; port = n }) ≡ true
      → IsEnd lib p net o component boundary (record { component = None; port = n })
  boundary-end n h = go o refl h
    where
      go : (c : Option CompositeType) → o ≡ c → elim c [ None ↦ false | Some t ↦ among (boundary t.ports) n ] ≡ true
          → IsEnd lib p net o component boundary (record { component = None; port = n })
      go None e h = absurd cc
      go (Some t) e h = record {
        kind = Composite t;
        there = around t e;
        named = inr h;
        type = ap (option_and_then (λ (u : CompositeType). type_among u.ports (record { component = None; port = n }))) e;
      }

  component-end : (c n : Name) → is_end lib (o, net) component boundary (record { component = Some c; port = n }) ≡ true
      → IsEnd lib p net o component boundary (record { component = Some c; port = n })
  component-end c n h = go (option_and_then (kind_of_instance lib) (instance_in net c)) refl h
    where
      go : (k : Option Kind) → option_and_then (kind_of_instance lib) (instance_in net c) ≡ k
          → elim k [ None ↦ false | Some k ↦ among (component (ports_of k)) n ] ≡ true
          → IsEnd lib p net o component boundary (record { component = Some c; port = n })
      go None e h = absurd cc
      go (Some k) e h = record {
        kind = k;
        there =
            ap (λ (z : Option Network). option_and_then (kind_of_instance lib) (option_and_then (λ net. instance_in net c) z)) there ∙ e;
        named = inl h;
        type = ap (option_and_then (λ (l : Kind). type_among (ports_of l) (record { component = Some c; port = n }))) e;
      }

  pub is-end : (c : Option Name) (n : Name) → is_end lib (o, net) component boundary (record { component = c; port = n }) ≡ true
      → IsEnd lib p net o component boundary (record { component = c; port = n })
  is-end None n h = boundary-end n h
  is-end (Some c) n h = component-end c n h
