-- Different instances of a resource have different ways in its trees: the indexes on the way to an instance determine its names.
use Rattle.fb_types.proofs.Common.{◌≡◌, ℕ, ◌<◌, ◌≤◌, ◌+◌, zero, suc, List, [], ◌∷◌, ◌++◌, length, Contains, refl, ap, sym, ◌∙◌, inl, inr, arith, length-append, same_Some, Option, Some, None, position, slice_get, unwrap_or, Name, Path, same_name, inside, instance_at, instance_in, network_at, paths_inside, paths_of, resource_of, AreAccepted, Inputs, system_of, path_at, instance_names, networks}
use Rattle.fb_types.specs.declared.deploy.Plan.{Plan}
use Rattle.fb_types.specs.declared.library.CompositeType.{CompositeType}
use Rattle.fb_types.specs.declared.library.Instance.{Instance}
use Rattle.fb_types.specs.declared.library.Library.{Library}
use Rattle.fb_types.specs.declared.library.Network.{Network}
use Rattle.fb_types.proofs.lemmas.lists.Positions.{named-position, position_is}
use Rattle.fb_types.proofs.lemmas.lists.Elements.{Contains-cons_cases, Contains-here, Contains-nil, flat_map-Contains}
use Rattle.fb_types.proofs.lemmas.lists.Options.{and_then_parts}
use Rattle.fb_system.specs.Layouts.{index_at, route_to}
use Rattle.fb_system.proofs.lemmas.networks.Distinct.{AreOnce, below, paths_from}
use Rattle.fb_types.proofs.lemmas.lists.ByIndex.{element_at, element_of_index, index_of_element}
use Rattle.fb_system.proofs.lemmas.networks.InsideInstances.{network_known}
use Rattle.fb_system.proofs.lemmas.networks.Sites.{IsSite, all_once, inside_is, instance_is}
use Rattle.fb_net.specs.Worlds.{WaysDiffer, rooted, index_in, way_in}

-- ---- Every path leads to an instance

there_inside :
    (d : ℕ) (lib : Library) (p : Path) (o : Option CompositeType) (net : Network) (q : Path) → AreOnce lib → Contains (networks lib) (o, net) → network_at lib p ≡ Some net →
    Contains (paths_inside d lib p net) q → (x : Instance) × (instance_at lib q ≡ Some x)
there_inside zero lib p o net q once among is c = absurd (Contains-nil q c)
there_inside (suc d) lib p o net q once among is c =
    let i = flat_map-Contains (paths_from d lib p) net.instances q c in
    let at = index_of_element net.instances i.0 i.1 in
    let site : IsSite lib p net = record { network = is; once = once.each (o, net) among } in
    elim (Contains-cons_cases (i.0.name ∷ p) (below d lib (i.0.name ∷ p) (inside lib i.0)) q i.2) [
      | inl e ↦ (i.0, ap (instance_at lib) (sym e) ∙ instance_is lib p net at.0 i.0 site at.1)
      | inr deeper ↦
          (elim (inside lib i.0) as (λ n. inside lib i.0 ≡ n → network_at lib (i.0.name ∷ p) ≡ n → Contains (below d lib (i.0.name ∷ p) n) q → (x : Instance) × (instance_at lib q ≡ Some x)) [
            | None ↦ λ e there c. absurd (Contains-nil q c)
            | Some inner ↦ λ e there c. let known = network_known lib i.0 inner e in there_inside d lib (i.0.name ∷ p) (Some known.0) inner q once known.1 there c
          ] refl (inside_is lib p net at.0 i.0 site at.1) deeper)
    ]

pub instance_there : (i : Inputs) → AreAccepted i → (k : ℕ) → k < length (system_of i).paths → (x : Instance) × (instance_at i.library (path_at (system_of i) k) ≡ Some x)
instance_there i accepted k number =
    let lib = i.library in
    let q = element_at (paths_of lib) k number in
    let x = there_inside 17 lib [] None lib.application.network q.0 (all_once lib i.plan (λ t. accepted 20 (inl (refl, t)))) (Contains-here (None, lib.application.network) _) refl
    (element_of_index (paths_of lib) k q.0 q.1) in
    (x.0, ap (λ o. instance_at lib (unwrap_or o [])) q.1 ∙ x.1)

-- ---- The index of an instance in its network

record IsAtIndex (lib : Library) (p : Path) (n : Name) : Type 0 where
  network : Network
  is_network : network_at lib p ≡ Some network
  index : ℕ
  is_index : index_at lib p n ≡ index
  instance : Instance
  is_instance : slice_get network.instances index ≡ Some instance
  name : instance.name ≡ n

represents : (lib : Library) (p : Path) (n : Name) (x : Instance) → instance_at lib (n ∷ p) ≡ Some x → IsAtIndex lib p n
represents lib p n x h =
    let net = and_then_parts (λ (net : Network). instance_in net n) (network_at lib p) x h in
    let k = and_then_parts (slice_get net.0.instances) (position (same_name n) (instance_names net.0)) x (sym (named-position (λ (i : Instance). i.name) n net.0.instances) ∙ net.2) in
    let at = position_is (λ (i : Instance). i.name) n net.0.instances k.0 k.1 in
    record {
      network = net.0;
      is_network = net.1;
      index = k.0;
      is_index = ap (λ (o : Option Network). elim o [ None ↦ 0 | Some net ↦ unwrap_or (position (same_name n) (instance_names net)) 0 ]) net.1 ∙ ap (λ (o : Option ℕ). unwrap_or o 0) k.1;
      instance = at.0;
      is_instance = at.1;
      name = at.2;
    }

module _ (lib : Library) (p : Path) (n m : Name) (s : IsAtIndex lib p n) (t : IsAtIndex lib p m) where
  same_network : s.network ≡ t.network
  same_network = same_Some s.network t.network (sym s.is_network ∙ t.is_network)

  -- the index in a network determines the name
  same_by_index : s.index ≡ t.index → n ≡ m
  same_by_index e =
      let both : Some s.instance ≡ Some t.instance =
      sym s.is_instance ∙ ap (λ (net : Network). slice_get net.instances s.index) same_network ∙ ap (λ k. slice_get t.network.instances k) e ∙ t.is_instance in
      sym s.name ∙ ap (λ (i : Instance). i.name) (same_Some s.instance t.instance both) ∙ t.name

-- ---- Routes

last_same : (xs ys : List ℕ) (x y : ℕ) → xs ++ x ∷ [] ≡ ys ++ y ∷ [] → (xs ≡ ys) × (x ≡ y)
last_same [] [] x y e = (refl, let same : x ≡ y = cc in same)
last_same [] (b ∷ bs) x y e = let long : 1 ≡ suc (length bs + 1) = ap length e ∙ ap suc (length-append bs (y ∷ [])) in absurd (omega (arith, long))
last_same (a ∷ more) [] x y e = let long : suc (length more + 1) ≡ 1 = sym (ap suc (length-append more (x ∷ []))) ∙ ap length e in absurd (omega (arith, long))
last_same (a ∷ more) (b ∷ bs) x y e =
    let first : a ≡ b = cc in
    let rest : more ++ x ∷ [] ≡ bs ++ y ∷ [] = cc in
    let r = last_same more bs x y rest in
    (ap (λ c. c ∷ more) first ∙ ap (λ cs. b ∷ cs) r.0, r.1)

rooted_last : (roots xs : List ℕ) (y z : ℕ) → rooted roots ((xs ++ y ∷ []) ++ z ∷ []) ≡ rooted roots (xs ++ y ∷ []) ++ z ∷ []
rooted_last roots [] y z = refl
rooted_last roots (x ∷ xs) y z = refl

rooted_length : (roots xs : List ℕ) → length (rooted roots xs) ≡ length xs
rooted_length roots [] = refl
rooted_length roots (x ∷ xs) = refl

route_length : (lib : Library) (p : Path) → length (route_to lib p) ≡ length p
route_length lib [] = refl
route_length lib (n ∷ p) = length-append (route_to lib p) (index_at lib p n ∷ []) ∙ (let e = route_length lib p in omega (arith, e))

-- on the way to an instance there are instances
above : (lib : Library) (n m : Name) (p : Path) (x : Instance) → instance_at lib (n ∷ m ∷ p) ≡ Some x → (y : Instance) × (instance_at lib (m ∷ p) ≡ Some y)
above lib n m p x h =
    let s = represents lib (m ∷ p) n x h in
    let y = and_then_parts (inside lib) (instance_at lib (m ∷ p)) s.network s.is_network in
    (y.0, y.1)

-- ---- Ways

-- the root of an instance of a resource determines its name
abbrev pub RootsDistinguish : Library → Plan → (resource : ℕ) → List ℕ → Type 0
RootsDistinguish lib plan r roots =
    (n m : Name) (x y : Instance) → instance_at lib (n ∷ []) ≡ Some x → instance_at lib (m ∷ []) ≡ Some y → resource_of plan (n ∷ []) ≡ r → resource_of plan (m ∷ []) ≡ r →
    index_in roots (index_at lib [] n) ≡ index_in roots (index_at lib [] m) → n ≡ m

module _ (lib : Library) (plan : Plan) (r : ℕ) (roots : List ℕ) (distinguish : RootsDistinguish lib plan r roots) where
  abbrev in_trees : Path → List ℕ
  in_trees p = rooted roots (route_to lib p)

  as_long : (p q : Path) → in_trees p ≡ in_trees q → length p ≡ length q
  as_long p q e =
      sym (rooted_length roots (route_to lib p) ∙ route_length lib p) ∙ ap length e ∙ rooted_length roots (route_to lib q) ∙ route_length lib q

  same_path_by_way :
      (p q : Path) (x y : Instance) → instance_at lib p ≡ Some x → instance_at lib q ≡ Some y → in_trees p ≡ in_trees q → resource_of plan p ≡ r → resource_of plan q ≡ r → p ≡ q
  same_path_by_way [] q x y h g e lies_p lies_q = cc
  same_path_by_way (n ∷ p) [] x y h g e lies_p lies_q = cc
  same_path_by_way (n ∷ []) (m ∷ []) x y h g e lies_p lies_q =
      ap (λ z. z ∷ []) (distinguish n m x y h g lies_p lies_q (last_same [] [] (index_in roots (index_at lib [] n)) (index_in roots (index_at lib [] m)) e).1)
  same_path_by_way (n ∷ []) (m ∷ m' ∷ q) x y h g e lies_p lies_q = let long = as_long (n ∷ []) (m ∷ m' ∷ q) e in absurd (omega (arith, long))
  same_path_by_way (n ∷ n' ∷ p) (m ∷ []) x y h g e lies_p lies_q = let long = as_long (n ∷ n' ∷ p) (m ∷ []) e in absurd (omega (arith, long))
  same_path_by_way (n ∷ n' ∷ p) (m ∷ m' ∷ q) x y h g e lies_p lies_q =
      let above_n = above lib n n' p x h in
      let above_m = above lib m m' q y g in
      let parts = last_same (in_trees (n' ∷ p)) (in_trees (m' ∷ q)) (index_at lib (n' ∷ p) n) (index_at lib (m' ∷ q) m)
      (sym (rooted_last roots (route_to lib p) (index_at lib p n') (index_at lib (n' ∷ p) n)) ∙ e ∙ rooted_last roots (route_to lib q) (index_at lib q m') (index_at lib (m' ∷ q) m)) in
      let rest : n' ∷ p ≡ m' ∷ q = same_path_by_way (n' ∷ p) (m' ∷ q) above_n.0 above_m.0 above_n.1 above_m.1 parts.0 lies_p lies_q in
      let s = represents lib (n' ∷ p) n x h in
      let t = represents lib (n' ∷ p) m y (ap (λ (z : Path). instance_at lib (m ∷ z)) rest ∙ g) in
      let indexes : s.index ≡ t.index = sym s.is_index ∙ parts.1 ∙ sym (ap (λ (z : Path). index_at lib z m) rest) ∙ t.is_index in
      ap (λ (z : Name). z ∷ n' ∷ p) (same_by_index lib (n' ∷ p) n m s t indexes) ∙ ap (λ (z : Path). m ∷ z) rest

-- Different instances of a resource have different ways.
pub paths_by_ways :
    (i : Inputs) (r : ℕ) (roots : List ℕ) → AreAccepted i → RootsDistinguish i.library i.plan r roots → (j k : ℕ) → j < length (system_of i).paths → k < length (system_of i).paths →
    (system_of i).resource (path_at (system_of i) j) ≡ r → (system_of i).resource (path_at (system_of i) k) ≡ r → way_in i roots j ≡ way_in i roots k →
    path_at (system_of i) j ≡ path_at (system_of i) k
paths_by_ways i r roots accepted distinguish j k number_j number_k lies_j lies_k ways =
    let x = instance_there i accepted j number_j in
    let y = instance_there i accepted k number_k in
    same_path_by_way i.library i.plan r roots distinguish (path_at (system_of i) j) (path_at (system_of i) k) x.0 y.0 x.1 y.1 ways lies_j lies_k

pub ways_differ : (i : Inputs) (r : ℕ) (roots : List ℕ) → WaysDiffer i r roots → (j k : ℕ) → j < length (system_of i).paths → k < length (system_of i).paths →
    (system_of i).resource (path_at (system_of i) j) ≡ r → (system_of i).resource (path_at (system_of i) k) ≡ r → way_in i roots j ≡ way_in i roots k → j ≡ k
unfolding WaysDiffer
ways_differ i r roots differ = differ

pub they_differ : (i : Inputs) (r : ℕ) (roots : List ℕ) → ((j k : ℕ) → j < length (system_of i).paths → k < length (system_of i).paths →
    (system_of i).resource (path_at (system_of i) j) ≡ r → (system_of i).resource (path_at (system_of i) k) ≡ r → way_in i roots j ≡ way_in i roots k → j ≡ k) → WaysDiffer i r roots
unfolding WaysDiffer
they_differ i r roots differ = differ

-- no instance is at the empty route
pub route_there : (i : Inputs) → AreAccepted i → (k : ℕ) → k < length (system_of i).paths → 1 ≤ length (route_to i.library (path_at (system_of i) k))
route_there i accepted k number =
    let x = instance_there i accepted k number in
    let long : 1 ≤ length (path_at (system_of i) k) = some (path_at (system_of i) k) x.0 x.1 in
    let same = route_length i.library (path_at (system_of i) k) in
    omega (arith, long, same)
  where
    some : (p : Path) (x : Instance) → instance_at i.library p ≡ Some x → 1 ≤ length p
    some [] x h = cc
    some (n ∷ p) x h = omega arith
