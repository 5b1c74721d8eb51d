-- What the numbers of a connection's end represent, in the network at a path.
use Rattle.fb_types.proofs.Common.{◌≡◌, ◌&&◌, ℕ, suc, true, false, List, [], ◌∷◌, map, length, Option, Some, None, refl, sym, ◌∙◌, ap, subst, inl, inr, arith, slice_get, option_map, option_and_then, position, nat_eq, cases_eq, ne_eqb, eq-eqb, false_from_ne_true, true≢false, same_Some, Name, Path, Port, same_name, same_path, same_port, Kind, Basic, Event, Composite, ports_of, kind_at, kind_of_instance, network_at, instance_in, port_in, Twice, instance_names}
use Rattle.fb_types.specs.declared.library.Library.{Library}
use Rattle.fb_types.specs.declared.library.CompositeType.{CompositeType}
use Rattle.fb_types.specs.declared.library.Instance.{Instance}
use Rattle.fb_types.specs.declared.library.Network.{Network}
use Rattle.fb_types.specs.declared.library.PortName.{PortName}
use Rattle.fb_types.specs.declared.library.Ports.{Ports}
use Rattle.fb_types.proofs.lemmas.names.NameLaws.{same_from_same_name, same_name-itself}
use Rattle.fb_types.proofs.lemmas.lists.Positions.{named-position, position_is, position_of_once}
use Rattle.fb_types.proofs.lemmas.names.PathLaws.{same_path_is, same_path_itself}
use Rattle.fb_check_names.specs.Numbers.{index_of, ports_at_index, end_at, end_number}
use Rattle.fb_check_names.specs.declared.numbers.ConnectionEnd.{ConnectionEnd}
use Rattle.fb_system.specs.Wirings.{same_component, same_end}
use Rattle.fb_types.proofs.lemmas.lists.Options.{and_then_parts, map_parts}
use Rattle.fb_system.specs.Networks.{IsThere, IsEndOf, side, composite_of}
use Rattle.fb_system.proofs.lemmas.types.Differing.{Differ}

-- ---- Names and indexes

map-itself : {A : Type 0} (xs : List A) → map (λ x. x) xs ≡ xs
map-itself [] = refl
map-itself (x ∷ xs) = ap (λ ys. x ∷ ys) (map-itself xs)

-- the name at its index
name_there : (ns : List Name) (n : Name) (k : ℕ) → index_of ns n ≡ Some k → slice_get ns k ≡ Some n
name_there ns n k h =
    let at = position_is (λ (m : Name). m) n ns k (ap (position (same_name n)) (map-itself ns) ∙ h) in
    at.1 ∙ ap (λ (m : Name). Some m) at.2

-- two indexes have the same name exactly if they are the same
same_at :
    {A : Type 0} (f : A → Name) (xs : List A) (i j : ℕ) (x y : A) → ¬ (Twice (map f xs)) → slice_get xs i ≡ Some x → slice_get xs j ≡ Some y
    → f x ≡ f y → i ≡ j
same_at f xs i j x y once h g e =
    same_Some i j (sym (position_of_once f xs i x once h) ∙ ap (λ (n : Name). position (same_name n) (map f xs)) e ∙ position_of_once f xs j y once g)

same_name_at :
    (ns : List Name) (i j : ℕ) (m n : Name) → ¬ (Twice ns) → slice_get ns i ≡ Some m → slice_get ns j ≡ Some n → same_name m n ≡ nat_eq i j
same_name_at ns i j m n once h g =
    elim (cases_eq i j) [
      | inl e ↦
          let same : m ≡ n = same_Some m n (sym h ∙ ap (slice_get ns) e ∙ g) in
          ap (λ (k : Name). same_name k n) same ∙ same_name-itself n ∙ sym (eq-eqb i j e)
      | inr apart ↦
          let once' : ¬ (Twice (map (λ (m : Name). m) ns)) = λ t. once (subst (λ (ns : List Name). Twice ns) (map-itself ns) t) in
          false_from_ne_true (same_name m n) (λ t. apart (same_at (λ (m : Name). m) ns i j m n once' h g (same_from_same_name m n t)))
          ∙ sym (ne_eqb i j apart)
    ]

-- ---- Paths

longer : (n : Name) (p : Path) → n ∷ p ≡ p → ⊥
longer n p e = let h : suc (length p) ≡ length p = ap length e in absurd (omega (arith, h))

same_path_of : (p q : Path) → p ≡ q → same_path p q ≡ true
same_path_of p q e = ap (λ (r : Path). same_path r q) e ∙ same_path_itself q

apart_path : (p q : Path) → (p ≡ q → ⊥) → same_path p q ≡ false
apart_path p q apart = false_from_ne_true (same_path p q) (λ t. apart (same_path_is p q t))

-- what is at the boundary has the path of the network itself, and no component has
pub at_boundary : (lib : Library) (p a : Path) (c : Option ℕ) → IsThere lib p c a → a ≡ p → c ≡ None
at_boundary lib p a None h e = refl
at_boundary lib p a (Some j) h e = absurd (longer h.1.name p (sym h.4 ∙ e))

pub at_component : (lib : Library) (p a : Path) (n : Name) (c : Option ℕ) → IsThere lib p c a → a ≡ n ∷ p → (j : ℕ) × (c ≡ Some j)
at_component lib p a n None h e = absurd (longer n p (sym e ∙ h))
at_component lib p a n (Some j) h e = (j, refl)

-- Two ends are at one path exactly if they are at one component, or both at the boundary.
pub paths_there :
    (lib : Library) (p : Path) (net : Network) (c d : Option ℕ) (a b : Path) → network_at lib p ≡ Some net → ¬ (Twice (instance_names net))
    → IsThere lib p c a → IsThere lib p d b → same_path a b ≡ same_component c d
paths_there lib p net None None a b is once h g = same_path_of a b (h ∙ sym g)
paths_there lib p net None (Some j) a b is once h g = apart_path a b (λ e. longer g.1.name p (sym g.4 ∙ sym e ∙ h))
paths_there lib p net (Some i) None a b is once h g = apart_path a b (λ e. longer h.1.name p (sym h.4 ∙ e ∙ g))
paths_there lib p net (Some i) (Some j) a b is once h g =
    let first : h.0 ≡ net = same_Some h.0 net (sym h.2 ∙ is) in
    let second : g.0 ≡ net = same_Some g.0 net (sym g.2 ∙ is) in
    let x : slice_get net.instances i ≡ Some h.1 = subst (λ (n : Network). slice_get n.instances i ≡ Some h.1) first h.3 in
    let y : slice_get net.instances j ≡ Some g.1 = subst (λ (n : Network). slice_get n.instances j ≡ Some g.1) second g.3 in
    elim (cases_eq i j) [
      | inl e ↦
          let same : h.1 ≡ g.1 = same_Some h.1 g.1 (sym x ∙ ap (slice_get net.instances) e ∙ y) in
          same_path_of a b (h.4 ∙ ap (λ (i : Instance). i.name ∷ p) same ∙ sym g.4) ∙ sym (eq-eqb i j e)
      | inr apart ↦
          apart_path a b
          (λ e. apart (same_at (λ (i : Instance). i.name) net.instances i j h.1 g.1 once x y (first_name h.1.name g.1.name p (sym h.4 ∙ e ∙ g.4))))
          ∙ sym (ne_eqb i j apart)
    ]
  where
    first_name : (m n : Name) (p : Path) → m ∷ p ≡ n ∷ p → m ≡ n
    first_name m n p e = let h : m ∷ p ≡ n ∷ p = e in cc

component_is : (c d : Option ℕ) → same_component c d ≡ true → c ≡ d
component_is None None h = refl
component_is None (Some j) h = absurd (true≢false (sym h))
component_is (Some i) None h = absurd (true≢false (sym h))
component_is (Some i) (Some j) h =
    elim (cases_eq i j) [
      | inl e ↦ ap (λ n. Some n) e
      | inr apart ↦ absurd (true≢false (sym h ∙ ne_eqb i j apart))
    ]

-- ---- Ends

-- The names of each of the two kinds differ, at each type.
abbrev pub AreApart : Library → (component boundary : Ports → List Name) → Type 0
AreApart lib component boundary = (p : Path) (k : Kind) → kind_at lib p ≡ Some k → Differ (component (ports_of k)) (boundary (ports_of k))

pub side_once : (component boundary : Ports → List Name) (c : Option ℕ) (p : Ports) → Differ (component p) (boundary p) → ¬ (Twice (side c component boundary p))
side_once component boundary None p d = d.second_once
side_once component boundary (Some j) p d = d.first_once

-- ends represent one port exactly if they are the same
pub ends_there :
    (lib : Library) (p : Path) (net : Network) (component boundary : Ports → List Name) (e f : ConnectionEnd) (q r : Port) → network_at lib p ≡ Some net
    → ¬ (Twice (instance_names net)) → AreApart lib component boundary → IsEndOf lib p component boundary e q → IsEndOf lib p component boundary f r
    → same_port q r ≡ same_end e f
ends_there lib p net component boundary e f q r is once apart h g =
    let paths : same_path q.at r.at ≡ same_component e.component f.component = paths_there lib p net e.component f.component q.at r.at is once h.there g.there in
    elim (same_component e.component f.component) as
    (λ b. same_component e.component f.component ≡ b → same_path q.at r.at ≡ b → (same_path q.at r.at && same_name q.name r.name) ≡ (b && nat_eq e.port f.port)) [
      | false ↦ λ _ s. ap (λ b. b && same_name q.name r.name) s
      | true ↦ λ t s.
          let one : e.component ≡ f.component = component_is e.component f.component t in
          let at : q.at ≡ r.at = same_path_is q.at r.at s in
          let kind : h.kind ≡ g.kind = same_Some h.kind g.kind (sym h.is_kind ∙ ap (kind_at lib) at ∙ g.is_kind) in
          let names : List Name = side f.component component boundary (ports_of g.kind) in
          let here : slice_get names e.port ≡ Some q.name =
          ap (λ (c : Option ℕ). slice_get (side c component boundary (ports_of g.kind)) e.port) (sym one)
          ∙ ap (λ (k : Kind). slice_get (side e.component component boundary (ports_of k)) e.port) (sym kind) ∙ h.name in
          ap (λ b. b && same_name q.name r.name) s
          ∙ same_name_at names e.port f.port q.name r.name (side_once component boundary f.component (ports_of g.kind) (apart r.at g.kind g.is_kind)) here g.name
    ] refl paths

-- ---- Ends by their names

composite_kind : (o : Option Kind) (t : CompositeType) → composite_of o ≡ Some t → o ≡ Some (Composite t)
composite_kind None t h = absurd (cc)
composite_kind (Some (Basic b)) t h = absurd (cc)
composite_kind (Some (Event e)) t h = absurd (cc)
composite_kind (Some (Composite u)) t h = ap (λ (t : CompositeType). Some (Composite t)) (same_Some u t h)

-- what a component is
pub kind_of_component :
    (lib : Library) (p : Path) (net : Network) (c : Name) (i : ℕ) (x : Instance) → network_at lib p ≡ Some net → index_of (instance_names net) c ≡ Some i
    → slice_get net.instances i ≡ Some x → kind_at lib (c ∷ p) ≡ kind_of_instance lib x
kind_of_component lib p net c i x is at there =
    ap (λ (o : Option Network). option_and_then (kind_of_instance lib) (option_and_then (λ net. instance_in net c) o)) is
    ∙ ap (option_and_then (kind_of_instance lib)) (named-position (λ (x : Instance). x.name) c net.instances ∙ ap (option_and_then (slice_get net.instances)) at ∙ there)

boundary_is :
    (lib : Library) (p : Path) (component boundary : Ports → List Name) (e : PortName) (w : ConnectionEnd)
    → option_and_then (λ t. end_at None (boundary t.ports) e) (composite_of (kind_at lib p)) ≡ Some w
    → IsEndOf lib p component boundary w (record { at = p; name = e.port })
boundary_is lib p component boundary e w h =
    let t = and_then_parts (λ (t : CompositeType). end_at None (boundary t.ports) e) (composite_of (kind_at lib p)) w h in
    let k = map_parts (λ (k : ℕ). record { component = None; port = k }) (index_of (boundary t.0.ports) e.port) w t.2 in
    subst (λ (w : ConnectionEnd). IsEndOf lib p component boundary w (record { at = p; name = e.port })) k.2
    (record {
      there = refl;
      kind = Composite t.0;
      is_kind = composite_kind (kind_at lib p) t.0 t.1;
      name = name_there (boundary t.0.ports) e.port k.0 k.1;
    })

component_there :
    (lib : Library) (p : Path) (net : Network) (component boundary : Ports → List Name) (e : PortName) (c : Name) (w : ConnectionEnd) → network_at lib p ≡ Some net
    → option_and_then (λ i. option_and_then (λ ps. end_at (Some i) (component ps) e) (option_map ports_of (option_and_then (kind_of_instance lib) (slice_get net.instances i))))
    (index_of (instance_names net) c) ≡ Some w
    → IsEndOf lib p component boundary w (record { at = c ∷ p; name = e.port })
component_there lib p net component boundary e c w is h =
    let i = and_then_parts (λ (i : ℕ). option_and_then (λ (ps : Ports). end_at (Some i) (component ps) e) (option_map ports_of (option_and_then (kind_of_instance lib) (slice_get net.instances i)))) (index_of (instance_names net) c) w h in
    let ps = and_then_parts (λ (ps : Ports). end_at (Some i.0) (component ps) e) (option_map ports_of (option_and_then (kind_of_instance lib) (slice_get net.instances i.0))) w i.2 in
    let k = map_parts ports_of (option_and_then (kind_of_instance lib) (slice_get net.instances i.0)) ps.0 ps.1 in
    let x = and_then_parts (kind_of_instance lib) (slice_get net.instances i.0) k.0 k.1 in
    let ends : end_at (Some i.0) (component (ports_of k.0)) e ≡ Some w = ap (λ (ps : Ports). end_at (Some i.0) (component ps) e) k.2 ∙ ps.2 in
    let j = map_parts (λ (j : ℕ). record { component = Some i.0; port = j }) (index_of (component (ports_of k.0)) e.port) w ends in
    let named = position_is (λ (x : Instance). x.name) c net.instances i.0 i.1 in
    let same : named.0 ≡ x.0 = same_Some named.0 x.0 (sym named.1 ∙ x.1) in
    let name : x.0.name ≡ c = ap (λ (x : Instance). x.name) (sym same) ∙ named.2 in
    subst (λ (w : ConnectionEnd). IsEndOf lib p component boundary w (record { at = c ∷ p; name = e.port })) j.2
    (record {
      there = (net, x.0, is, x.1, ap (λ (n : Name). n ∷ p) (sym name));
      kind = k.0;
      is_kind = kind_of_component lib p net c i.0 x.0 is i.1 x.1 ∙ x.2;
      name = name_there (component (ports_of k.0)) e.port j.0 j.1;
    })

-- an end represents the port that its names represent
pub end_there :
    (lib : Library) (p : Path) (net : Network) (component boundary : Ports → List Name) (e : PortName) (w : ConnectionEnd) → network_at lib p ≡ Some net
    → end_number lib (composite_of (kind_at lib p), net) component boundary e ≡ Some w → IsEndOf lib p component boundary w (port_in p e)
end_there lib p net component boundary e w is h =
    elim e.component as
    (λ (o : Option Name).
    elim o as (λ _. Option ConnectionEnd) [
      | None ↦ option_and_then (λ t. end_at None (boundary t.ports) e) (composite_of (kind_at lib p))
      | Some c ↦ option_and_then (λ i. option_and_then (λ ps. end_at (Some i) (component ps) e) (ports_at_index lib (composite_of (kind_at lib p), net) i)) (index_of (instance_names net) c)
    ] ≡ Some w
    → IsEndOf lib p component boundary w (elim o [ None ↦ record { at = p; name = e.port } | Some c ↦ record { at = c ∷ p; name = e.port } ])) [
      | None ↦ boundary_is lib p component boundary e w
      | Some c ↦ component_there lib p net component boundary e c w is
    ] h
