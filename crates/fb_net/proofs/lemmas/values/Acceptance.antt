-- What acceptance says of the instances of a declaration.
use Rattle.fb_types.proofs.Common.{◌≡◌, ℕ, ◌<◌, ◌≤◌, ◌+◌, zero, suc, List, [], ◌∷◌, ◌++◌, map, length, get_or, Option, Some, None, Contains, true, false, refl, sym, ◌∙◌, ap, subst, inl, inr, arith, append_assoc, true≢false, Contains-append_left, Contains-append_right, Contains-append_cases, slice_get-get_or, flat_map, option_map, option_and_then, position, slice_get, unwrap_or, Name, Path, same_name, Kind, Basic, Event, among, event_blocks, event_names, named, ports_of, variable_names, inside, instance_at, instance_in, kind_at, kind_of, kind_of_instance, network_at, paths_inside, paths_of, resource_names_of, type_name, type_named, AreAccepted, Inputs, system_of, path_at, NameTwice, OwnedNetwork, Twice, algorithm_names, basics, basics_in, block_type_names, instance_names, interfaces, internals_of, networks, networks_in, parameter_lists, port_names, state_names, with_lists, NameUnknown, Required, all_of, required_chart, required_deployment, required_parameters, required_types, required, required_withs}
use Rattle.fb_types.specs.declared.deploy.Plan.{Plan}
use Rattle.fb_types.specs.declared.event_kind.EventKind.{EventKind}
use Rattle.fb_types.specs.declared.library.BasicType.{BasicType}
use Rattle.fb_types.specs.declared.library.BlockType.{BlockType}
use Rattle.fb_types.specs.declared.library.CompositeType.{CompositeType}
use Rattle.fb_types.specs.declared.library.Instance.{Instance}
use Rattle.fb_types.specs.declared.library.Library.{Library}
use Rattle.fb_types.specs.declared.library.Network.{Network}
use Rattle.fb_types.specs.declared.library.Parameter.{Parameter}
use Rattle.fb_types.specs.declared.library.BlockType.TheVariants as block
use Rattle.fb_types.proofs.lemmas.lists.Positions.{is_some-position, named-position, named_of_once, position_is}
use Rattle.fb_types.proofs.lemmas.lists.Options.{and_then_parts, map_parts, some_from_is_some}
use Rattle.fb_types.proofs.lemmas.names.NameLaws.{any_from_contains, contains_from_any, named-Contains}
use Rattle.fb_types.proofs.lemmas.lists.ByIndex.{index_of_element}
use Rattle.fb_types.proofs.lemmas.lists.TwiceLaws.{Twice-append_left, once_right}
use Rattle.fb_types.proofs.lemmas.lists.Elements.{Contains-cons_cases, Contains-here, Contains-nil, Contains-there, Contains-flat_map, Contains-map, flat_map-Contains}
use Rattle.fb_types.proofs.lemmas.events.EventNames.{variables_once as event_variables_once}
use Rattle.fb_system.proofs.lemmas.networks.Distinct.{AreOnce, below, paths_from}
use Rattle.fb_system.proofs.lemmas.networks.InsideInstances.{network_known}
use Rattle.fb_system.proofs.lemmas.networks.Sites.{all_once}

-- ---- Acceptance

pub once_of : (i : Inputs) → AreAccepted i → ¬ (NameTwice i.library i.plan)
once_of i h t = h 20 (inl (refl, t))

pub known_of : (i : Inputs) → AreAccepted i → ¬ (NameUnknown i.library i.plan)
known_of i h t = h 21 (inr (inl (refl, t)))

-- ---- What is inside an instance is in a network of the declaration

pub record IsNet (lib : Library) (net : Network) : Type 0 where
  pub outer : Option CompositeType
  pub among : Contains (networks lib) (outer, net)

pub net_known : (lib : Library) (p : Path) (net : Network) → network_at lib p ≡ Some net → IsNet lib net
net_known lib [] net h =
    let e : lib.application.network ≡ net = cc in
    record { outer = None; among = subst (λ (n : Network). Contains (networks lib) (None, n)) e (Contains-here (None, lib.application.network) (flat_map networks_in lib.blocks)) }
net_known lib (n ∷ p) net h =
    let i = and_then_parts (inside lib) (instance_at lib (n ∷ p)) net h in
    let k = network_known lib i.0 net i.2 in
    record { outer = Some k.0; among = k.1 }

-- ---- Paths

pub record IsStood (lib : Library) (most : ℕ) (q : Path) : Type 0 where
  pub short : length q ≤ most
  pub instance : Instance
  pub is_instance : instance_at lib q ≡ Some instance

abbrev name_of : Instance → Name
name_of i = i.name

found_at :
    (lib : Library) (p : Path) (net : Network) (i : Instance) → AreOnce lib → network_at lib p ≡ Some net → Contains net.instances i
    → instance_at lib (i.name ∷ p) ≡ Some i
found_at lib p net i once h c =
    let at = index_of_element net.instances i c in
    let known = net_known lib p net h in
    ap (option_and_then (λ (net : Network). instance_in net i.name)) h
    ∙ named_of_once name_of net.instances at.0 i (once.each (known.outer, net) known.among) at.1

deeper :
    (d : ℕ) (lib : Library) (p : Path) (i : Instance) (q : Path) → instance_at lib (i.name ∷ p) ≡ Some i
    → ((net : Network) → network_at lib (i.name ∷ p) ≡ Some net → Contains (paths_inside d lib (i.name ∷ p) net) q → IsStood lib (length (i.name ∷ p) + d) q)
    → (o : Option Network) → inside lib i ≡ o → Contains (below d lib (i.name ∷ p) o) q → IsStood lib (length p + suc d) q
deeper d lib p i q at inner None e c = absurd (Contains-nil q c)
deeper d lib p i q at inner (Some net) e c =
    let s = inner net (ap (option_and_then (inside lib)) at ∙ e) c in
    let short : length q ≤ suc (length p) + d = s.short in
    record { short = omega (arith, short); instance = s.instance; is_instance = s.is_instance }

stood_inside :
    (d : ℕ) (lib : Library) (p : Path) (net : Network) (q : Path) → AreOnce lib → network_at lib p ≡ Some net → Contains (paths_inside d lib p net) q
    → IsStood lib (length p + d) q
stood_inside zero lib p net q once h c = absurd (Contains-nil q c)
stood_inside (suc d) lib p net q once h c =
    let f = flat_map-Contains (paths_from d lib p) net.instances q c in
    let i = f.0 in
    let at = found_at lib p net i once h f.1 in
    elim (Contains-cons_cases (i.name ∷ p) (below d lib (i.name ∷ p) (inside lib i)) q f.2) [
      | inl e ↦ subst (λ (q : Path). IsStood lib (length p + suc d) q) e (record { short = omega arith; instance = i; is_instance = at })
      | inr b ↦ deeper d lib p i q at (λ net. stood_inside d lib (i.name ∷ p) net q once) (inside lib i) refl b
    ]

pub stood : (i : Inputs) (k : ℕ) → AreAccepted i → k < length (system_of i).paths → IsStood i.library 17 (path_at (system_of i) k)
stood i k accepted h =
    let lib = i.library in
    let there = slice_get-get_or (paths_of lib) k [] h in
    let q = get_or (paths_of lib) k [] in
    let is : path_at (system_of i) k ≡ q = ap (λ (o : Option Path). unwrap_or o []) there in
    subst (λ (q : Path). IsStood lib 17 q) (sym is)
    (stood_inside 17 lib [] lib.application.network q (all_once lib i.plan (once_of i accepted)) refl (h' (paths_of lib) k q there))
  where
    h' : (ps : List Path) (k : ℕ) (q : Path) → slice_get ps k ≡ Some q → Contains ps q
    h' [] k q e = absurd (cc)
    h' (p ∷ ps) zero q e = let same : p ≡ q = cc in subst (λ (z : Path). Contains (p ∷ ps) z) same (Contains-here p ps)
    h' (p ∷ ps) (suc k) q e = Contains-there p ps q (h' ps k q e)

-- ---- The instance of a path, in its network

pub record IsIn (lib : Library) (q : Path) (i : Instance) : Type 0 where
  pub name : Name
  pub outside : Path
  pub path : q ≡ name ∷ outside
  pub network : Network
  pub is_network : network_at lib outside ≡ Some network
  pub found : instance_in network name ≡ Some i

pub in_network : (lib : Library) (q : Path) (i : Instance) → instance_at lib q ≡ Some i → IsIn lib q i
in_network lib [] i h = absurd (cc)
in_network lib (n ∷ p) i h =
    let net = and_then_parts (λ (net : Network). instance_in net n) (network_at lib p) i h in
    record { name = n; outside = p; path = refl; network = net.0; is_network = net.1; found = net.2 }

-- ---- Types are known

module _ (lib : Library) (plan : Plan) (known : ¬ (NameUnknown lib plan)) where
  abbrev types : List Required
  types = flat_map (λ (n : OwnedNetwork). required_types lib n.1) (networks lib)

  abbrev withs : List Required
  withs = flat_map required_withs (interfaces lib)

  abbrev charts : List Required
  charts = flat_map required_chart (basics lib)

  abbrev parameters : List Required
  parameters = flat_map (λ (n : OwnedNetwork). flat_map (required_parameters lib) n.1.instances) (networks lib)

  abbrev deployment : List Required
  deployment = required_deployment lib plan

  sure : (n : Name) (allowed : List Name) → Contains (required lib plan) (n, allowed) → among allowed n ≡ true
  sure n allowed c =
      elim (among allowed n) as (λ b. among allowed n ≡ b → among allowed n ≡ true) [
        | true ↦ λ e. e
        | false ↦ λ e. absurd (known (inl ((n, allowed), c, λ d. true≢false (sym (any_from_contains n allowed d) ∙ e))))
      ] refl

  type_among : (net : Network) (i : Instance) → IsNet lib net → Contains net.instances i → among (block_type_names lib) i.block_type ≡ true
  type_among net i is c =
      let w : Required = (i.block_type, block_type_names lib) in
      let here : Contains (required_types lib net) w =
      Contains-map (λ (n : Name). (n, block_type_names lib)) (map (λ (i : Instance). i.block_type) net.instances) i.block_type
      (Contains-map (λ (i : Instance). i.block_type) net.instances i c) in
      sure i.block_type (block_type_names lib)
      (Contains-append_left (types ++ withs ++ charts ++ parameters) deployment w
      (Contains-append_left (types ++ withs ++ charts) parameters w
      (Contains-append_left (types ++ withs) charts w
      (Contains-append_left types withs w
      (Contains-flat_map (λ (n : OwnedNetwork). required_types lib n.1) (networks lib) (is.outer, net) w is.among here)))))

  parameter_among :
      (net : Network) (i : Instance) (k : Kind) (n : Name) → IsNet lib net → Contains net.instances i → kind_of_instance lib i ≡ Some k
      → Contains (map (λ (x : Parameter). x.name) i.parameters) n → among (variable_names (ports_of k).inputs) n ≡ true
  parameter_among net i k n is c of c' =
      let ins = variable_names (ports_of k).inputs in
      let w : Required = (n, ins) in
      let here : Contains (required_parameters lib i) w =
      subst (λ (o : Option Kind). Contains (elim o [ None ↦ [] | Some k ↦ all_of (map (λ (x : Parameter). x.name) i.parameters) (variable_names (ports_of k).inputs) ]) w) (sym of)
      (Contains-map (λ (n : Name). (n, ins)) (map (λ (x : Parameter). x.name) i.parameters) n c') in
      sure n ins
      (Contains-append_left (types ++ withs ++ charts ++ parameters) deployment w
      (Contains-append_right (types ++ withs ++ charts) parameters w
      (Contains-flat_map (λ (n : OwnedNetwork). flat_map (required_parameters lib) n.1.instances) (networks lib) (is.outer, net) w is.among
      (Contains-flat_map (required_parameters lib) net.instances i w c here))))

  named_type : (n : Name) → among (block_type_names lib) n ≡ true → (k : Kind) × (type_named lib n ≡ Some k)
  named_type n h =
      elim (named (λ e. e.0) n event_blocks) as
      (λ o. named (λ e. e.0) n event_blocks ≡ o → (k : Kind) × (elim o [ Some e ↦ Some (Event e.1) | None ↦ option_map kind_of (named type_name n lib.blocks) ] ≡ Some k)) [
        | Some e ↦ λ is. (Event e.1, refl)
        | None ↦ λ is.
            (elim (Contains-append_cases (map (λ (e : Name × EventKind). e.0) event_blocks) (map type_name lib.blocks) n (contains_from_any n (block_type_names lib) h)) [
              | inl event ↦
                  let e = some_named (λ (e : Name × EventKind). e.0) n event_blocks event in absurd (nothing e.0 (sym is ∙ e.1))
              | inr declared ↦
                  let b = some_named type_name n lib.blocks declared in (kind_of b.0, ap (option_map kind_of) b.1)
            ])
      ] refl
    where
      nothing : {A : Type 0} (x : A) → None ≡ Some x → ⊥
      nothing x e = cc

      some_named : {A : Type 0} (f : A → Name) (n : Name) (xs : List A) → Contains (map f xs) n → (x : A) × (named f n xs ≡ Some x)
      some_named f n xs c =
          let at = some_from_is_some (position (same_name n) (map f xs)) (is_some-position (same_name n) (map f xs) ∙ any_from_contains n (map f xs) c) in
          let there = position_is f n xs at.0 at.1 in
          (there.0, named-position f n xs ∙ ap (option_and_then (slice_get xs)) at.1 ∙ there.1)

  -- an instance has a type
  pub kind_there : (q : Path) (i : Instance) → instance_at lib q ≡ Some i → (k : Kind) × (kind_of_instance lib i ≡ Some k) × (kind_at lib q ≡ Some k)
  kind_there q i h =
      let s = in_network lib q i h in
      let net = net_known lib s.outside s.network s.is_network in
      let k = named_type i.block_type (type_among s.network i net (named-Contains name_of s.name s.network.instances i s.found)) in
      (k.0, k.1, ap (option_and_then (kind_of_instance lib)) h ∙ k.1)

  -- a parameter is that of a data input
  pub parameter_input :
      (q : Path) (i : Instance) (k : Kind) (n : Name) → instance_at lib q ≡ Some i → kind_of_instance lib i ≡ Some k
      → Contains (map (λ (x : Parameter). x.name) i.parameters) n → among (variable_names (ports_of k).inputs) n ≡ true
  parameter_input q i k n h of c =
      let s = in_network lib q i h in
      parameter_among s.network i k n (net_known lib s.outside s.network s.is_network) (named-Contains name_of s.name s.network.instances i s.found) of c

-- ---- A basic type by its name

basic_block : (b : BlockType) (t : BasicType) → kind_of b ≡ Basic t → b ≡ block.Basic t
basic_block (block.Basic s) t h = let e : s ≡ t = cc in ap (λ t. block.Basic t) e
basic_block (block.Composite s) t h = absurd (cc)

pub basic_known : (lib : Library) (n : Name) (t : BasicType) → type_named lib n ≡ Some (Basic t) → Contains (basics lib) t
basic_known lib n t =
    elim (named (λ e. e.0) n event_blocks) as
    (λ o. elim o [ Some e ↦ Some (Event e.1) | None ↦ option_map kind_of (named type_name n lib.blocks) ] ≡ Some (Basic t) → Contains (basics lib) t) [
      | Some e ↦ λ h. absurd (cc)
      | None ↦ λ h.
          let b = map_parts kind_of (named type_name n lib.blocks) (Basic t) h in
          Contains-flat_map basics_in lib.blocks (block.Basic t) t
          (subst (λ (b : BlockType). Contains lib.blocks b) (basic_block b.0 t b.2) (named-Contains type_name n lib.blocks b.0 b.1))
          (Contains-here t [])
    ]

pub basic_at : (lib : Library) (q : Path) (t : BasicType) → kind_at lib q ≡ Some (Basic t) → Contains (basics lib) t
basic_at lib q t h =
    let i = and_then_parts (kind_of_instance lib) (instance_at lib q) (Basic t) h in basic_known lib i.0.block_type t i.2

-- ---- The data inputs and outputs of a type have different names

abbrev pub data_names : Kind → List Name
data_names k = variable_names (ports_of k).inputs ++ variable_names (ports_of k).outputs

module _ (lib : Library) (plan : Plan) (once : ¬ (NameTwice lib plan)) where
  ports_once : (b : BlockType) → Contains lib.blocks b → ¬ (Twice (port_names b))
  ports_once b c twice =
      let types : List (List Name) = block_type_names lib ∷ map port_names lib.blocks in
      let algorithms : List (List Name) = map algorithm_names (basics lib) in
      let states : List (List Name) = map state_names (basics lib) in
      let instances : List (List Name) = map (λ (n : OwnedNetwork). instance_names n.1) (networks lib) in
      let withs : List (List Name) = flat_map with_lists (interfaces lib) in
      let parameters : List (List Name) = flat_map (λ (n : OwnedNetwork). parameter_lists n.1) (networks lib) in
      let ns : List Name = port_names b in
      once (inl (
        ns,
        Contains-append_left (types ++ algorithms ++ states ++ instances ++ withs ++ parameters) (resource_names_of plan ∷ []) ns
            (Contains-append_left (types ++ algorithms ++ states ++ instances ++ withs) parameters ns
            (Contains-append_left (types ++ algorithms ++ states ++ instances) withs ns
            (Contains-append_left (types ++ algorithms ++ states) instances ns
            (Contains-append_left (types ++ algorithms) states ns
            (Contains-append_left types algorithms ns
            (Contains-there (block_type_names lib) (map port_names lib.blocks) ns (Contains-map port_names lib.blocks b c))))))),
        twice,
      ))

  block_once : (b : BlockType) → Contains lib.blocks b → ¬ (Twice (data_names (kind_of b)))
  block_once b c twice =
      let p = ports_of (kind_of b) in
      let events = event_names p.event_inputs ++ event_names p.event_outputs in
      let ins = variable_names p.inputs in
      let outs = variable_names p.outputs in
      once_right events (ins ++ outs)
      (λ t. ports_once b c
      (Twice-append_left ((events ++ ins) ++ outs) (variable_names (internals_of (kind_of b)))
      (subst (λ (ns : List Name). Twice ns) (sym (append_assoc events ins outs)) t)))
      twice

  by_block : (n : Name) (k : Kind) (o : Option BlockType) → named type_name n lib.blocks ≡ o → option_map kind_of o ≡ Some k → ¬ (Twice (data_names k))
  by_block n k None is h = absurd (cc)
  by_block n k (Some b) is h = subst (λ (k : Kind). ¬ (Twice (data_names k))) (same (kind_of b) k h) (block_once b (named-Contains type_name n lib.blocks b is))
    where
      same : (a b : Kind) → Some a ≡ Some b → a ≡ b
      same a b e = cc

  by_event : (n : Name) (k : Kind) (o : Option (Name × EventKind)) →
      elim o [ Some e ↦ Some (Event e.1) | None ↦ option_map kind_of (named type_name n lib.blocks) ] ≡ Some k → ¬ (Twice (data_names k))
  by_event n k None h = by_block n k (named type_name n lib.blocks) refl h
  by_event n k (Some e) h = subst (λ (k : Kind). ¬ (Twice (data_names k))) (same (Event e.1) k h) (event_variables_once e.1)
    where
      same : (a b : Kind) → Some a ≡ Some b → a ≡ b
      same a b e = cc

  by_instance : (k : Kind) (o : Option Instance) → option_and_then (kind_of_instance lib) o ≡ Some k → ¬ (Twice (data_names k))
  by_instance k None h = absurd (cc)
  by_instance k (Some i) h = by_event i.block_type k (named (λ e. e.0) i.block_type event_blocks) h

  pub kind_once : (p : Path) (k : Kind) → kind_at lib p ≡ Some k → ¬ (Twice (data_names k))
  kind_once p k h = by_instance k (instance_at lib p) h
