-- Each instance of a resource has its block on its way, before the first event.
use Rattle.fb_net.proofs.lemmas.Common.{◌≡◌, ℕ, ◌<◌, ◌≤◌, ◌+◌, ◌-◌, zero, suc, List, [], ◌∷◌, ◌++◌, map, length, Option, Some, None, refl, sym, ◌∙◌, ap, subst, arith, option_map, option_and_then, position, slice_get, unwrap_or, Name, Path, same_name, inside, instance_at, network_at, AreAccepted, Inputs, system_of, path_at, instance_names, opening_block, Instance, Library, Network, none-some, same_Some, components_of, own_of, block_at, own_at, IsForest, Represents, index_in, Block, Forest, AreGrown}
use Rattle.fb_types.proofs.Common.{instance_in, resource_of, opening_state, world_of}
use Rattle.fb_types.proofs.lemmas.lists.Positions.{named-position, position_is}
use Rattle.fb_types.proofs.lemmas.lists.Options.{and_then_parts}
use Rattle.fb_system.specs.Layouts.{index_at, route_to}
use Rattle.fb_net.specs.Worlds.{RepresentsAt, rooted}
use Rattle.fb_net.specs.Opening.{AreDeep, AreRooted, HaveShells, CoversAll, Grown}
use Rattle.fb_net.proofs.lemmas.values.Acceptance.{in_network, stood}
use Rattle.fb_net.proofs.lemmas.opening.Growing.{instance_is, number_is}
use Rattle.fb_net.proofs.lemmas.blocks.WaysInTrees.{RootsDistinguish, paths_by_ways, they_differ}
use Rattle.fb_net.proofs.lemmas.values.Writing.{AreNumbered}

-- ---- Blocks on their ways

further : (blocks : List Block) (n : ℕ) (route : List ℕ) (b : Block) (index : ℕ) → block_at blocks (n ∷ route) ≡ Some b
    → block_at blocks (n ∷ (route ++ index ∷ [])) ≡ slice_get (components_of b) index
further blocks n [] b index h = ap (option_and_then (λ (b : Block). slice_get (components_of b) index)) h
further blocks n (m ∷ route) b index h =
    let c = and_then_parts (λ (b : Block). block_at (components_of b) (m ∷ route)) (slice_get blocks n) b h in
    ap (option_and_then (λ (b : Block). block_at (components_of b) (m ∷ (route ++ index ∷ [])))) c.1 ∙ further (components_of c.0) m route b index c.2

below_rooted : (blocks : List Block) (roots route : List ℕ) (b : Block) (index : ℕ) → block_at blocks (rooted roots route) ≡ Some b
    → block_at blocks (rooted roots (route ++ index ∷ [])) ≡ slice_get (components_of b) index
below_rooted blocks roots [] b index h = absurd (none-some b h)
below_rooted blocks roots (n ∷ route) b index h = further blocks (index_in roots n) route b index h

-- ---- Names and indexes

abbrev name_of : Instance → Name
name_of i = i.name

-- an instance by its name is at the index of the name
found_index : (lib : Library) (p : Path) (net : Network) (n : Name) (x : Instance) → network_at lib p ≡ Some net → instance_in net n ≡ Some x
    → (slice_get net.instances (index_at lib p n) ≡ Some x) × (x.name ≡ n)
found_index lib p net n x h found =
    let at = and_then_parts (slice_get net.instances) (position (same_name n) (map name_of net.instances)) x (sym (named-position name_of n net.instances) ∙ found) in
    let there = position_is name_of n net.instances at.0 at.1 in
    let index : index_at lib p n ≡ at.0 =
    ap (λ (o : Option Network). elim o [ None ↦ 0 | Some net ↦ unwrap_or (position (same_name n) (instance_names net)) 0 ]) h ∙ ap (λ (o : Option ℕ). unwrap_or o 0) at.1 in
    let same : there.0 ≡ x = some_is there.0 x (sym there.1 ∙ at.2) in
    (ap (slice_get net.instances) index ∙ at.2, ap name_of (sym same) ∙ there.2)
  where
    some_is : (a b : Instance) → Some a ≡ Some b → a ≡ b
    some_is a b e = cc

-- ---- Roots

module _ (i : Inputs) (r : ℕ) (roots numbers : List ℕ) (rooted_so : AreRooted i r roots numbers) where
  abbrev instances : List Instance
  instances = i.library.application.network.instances

  -- an instance of the application that is in the resource has its root
  root_there : (n : Name) (x : Instance) → instance_in i.library.application.network n ≡ Some x → resource_of i.plan (n ∷ []) ≡ r
      → (k : ℕ) × (slice_get numbers (index_in roots (index_at i.library [] n)) ≡ Some k) × (path_at (system_of i) k ≡ n ∷ [])
  root_there n x found lies =
      let index = index_at i.library [] n in
      let at = found_index i.library [] i.library.application.network n x refl found in
      let k = instance_is i [] instances rooted_so.top index x rooted_so.are at.0 in
      let path : path_at (system_of i) k.0 ≡ n ∷ [] = k.2 ∙ ap (λ (m : Name). m ∷ []) at.1 in
      (k.0, rooted_so.roots_are.there index k.0 k.1 (ap (resource_of i.plan) path ∙ lies), path)

  pub roots_distinguish : RootsDistinguish i.library i.plan r roots
  roots_distinguish n m x y is_x is_y lies_n lies_m same =
      let a = root_there n x is_x lies_n in
      let b = root_there m y is_y lies_m in
      let one : a.0 ≡ b.0 = same_Some a.0 b.0 (sym a.1 ∙ ap (slice_get numbers) same ∙ b.1) in
      first_same n m (sym a.2 ∙ ap (path_at (system_of i)) one ∙ b.2)
    where
      first_same : (n m : Name) → n ∷ [] ≡ m ∷ [] → n ≡ m
      first_same n m e = cc

module _ (i : Inputs) (r : ℕ) (roots numbers : List ℕ) (blocks : List Block) (rooted_so : AreRooted i r roots numbers) (grown : AreGrown i 17 numbers blocks) where
  stands_top : (n : Name) (x : Instance) → instance_in i.library.application.network n ≡ Some x → resource_of i.plan (n ∷ []) ≡ r
      → (b : Block) × (slice_get blocks (index_in roots (index_at i.library [] n)) ≡ Some b) × Grown i 17 (n ∷ []) b
  stands_top n x found lies =
      let k = root_there i r roots numbers rooted_so n x found lies in
      let b = grown.grown (index_in roots (index_at i.library [] n)) k.0 k.1 in
      (b.0, b.1, subst (λ (p : Path). Grown i 17 p b.0) k.2 b.2)

  stands_path : (p : Path) (n : Name) (x : Instance) (d : ℕ) → instance_at i.library (n ∷ p) ≡ Some x → resource_of i.plan (n ∷ p) ≡ r → length (n ∷ p) + d ≡ 18
      → (b : Block) × (block_at blocks (rooted roots (route_to i.library (n ∷ p))) ≡ Some b) × Grown i d (n ∷ p) b
  stands_path [] n x d h lies deep =
      let b = stands_top n x h lies in
      let e : 17 ≡ d = omega (arith, deep) in
      (b.0, b.1, subst (λ (d : ℕ). Grown i d (n ∷ []) b.0) e b.2)
  stands_path (m ∷ p) n x d h lies deep =
      let net = and_then_parts (λ (net : Network). instance_in net n) (network_at i.library (m ∷ p)) x h in
      let outer = and_then_parts (inside i.library) (instance_at i.library (m ∷ p)) net.0 net.1 in
      let b = stands_path p m outer.0 (suc d) outer.1 lies (omega (arith, deep)) in
      let at = found_index i.library (m ∷ p) net.0 n x net.1 net.2 in
      let c = b.2.1 net.0 net.1 (index_at i.library (m ∷ p) n) x at.0 in (
        c.0,
        below_rooted blocks roots (route_to i.library (m ∷ p)) b.0 (index_at i.library (m ∷ p) n) b.1 ∙ c.1,
        subst (λ (z : Name). Grown i d (z ∷ m ∷ p) c.0) at.1 c.2,
      )

  own_stands : (p : Path) (b : Block) (d : ℕ) → 1 ≤ d → Grown i d p b → Represents (system_of i) p (own_of b) (opening_block (system_of i) p)
  own_stands p b zero h g = absurd (omega (arith, h))
  own_stands p b (suc d) h g = g.0

  pub stands_at : AreAccepted i → (k : ℕ) → k < length (system_of i).paths → (system_of i).resource (path_at (system_of i) k) ≡ r
      → RepresentsAt i roots blocks k (opening_block (system_of i) (path_at (system_of i) k))
  stands_at accepted k h lies =
      let q = path_at (system_of i) k in
      let s = stood i k accepted h in
      let net = in_network i.library q s.instance s.is_instance in
      let short : length q ≤ 17 = s.short in
      let long : length q ≡ length (net.name ∷ net.outside) = ap (λ (p : Path). length p) net.path in
      let depth = 18 - length (net.name ∷ net.outside) in
      let b = stands_path net.outside net.name s.instance depth (sym (ap (instance_at i.library) net.path) ∙ s.is_instance)
      (sym (ap (resource_of i.plan) net.path) ∙ lies) (omega (arith, short, long)) in
      record {
        own = own_of b.0;
        stood = ap (λ (p : Path). own_at blocks (rooted roots (route_to i.library p))) net.path ∙ ap (option_map own_of) b.1;
        represents =
            subst (λ (p : Path). Represents (system_of i) p (own_of b.0) (opening_block (system_of i) p)) (sym net.path)
            (own_stands (net.name ∷ net.outside) b.0 depth (omega (arith, short, long)) b.2);
      }

-- the blocks and shells represent the opening state
pub forest_is :
    (i : Inputs) (t : Forest) (r : ℕ) (numbers : List ℕ) → AreAccepted i → AreNumbered i → t.resource ≡ r → AreRooted i r t.roots numbers → AreGrown i 17 numbers t.blocks
    → HaveShells i (length (system_of i).paths) t → CoversAll i r t.held → IsForest i t (world_of (opening_state (system_of i)) r)
forest_is i t r numbers accepted numbered is rooted_so grown has_shells held = record {
  blocks = λ k h lies. stands_at i r t.roots numbers t.blocks rooted_so grown accepted k h (lies ∙ is);
  ways = they_differ i t.resource t.roots (λ j k h g lies_j lies_k same.
      sym (numbered j h)
      ∙ ap (system_of i).number (paths_by_ways i r t.roots accepted (roots_distinguish i r t.roots numbers rooted_so) j k h g (lies_j ∙ is) (lies_k ∙ is) same)
      ∙ numbered k g);
  shells = has_shells.stand;
  has_shells = let each = has_shells.each in omega (arith, each);
  apart = has_shells.apart;
  held = λ x variable read outside.
      held read.to read.variable (read.within ∙ is) x variable read.source (λ e. outside (e ∙ sym is));
}

-- ---- The application's instances in a resource

pub top_deep : (i : Inputs) (r : ℕ) (roots numbers : List ℕ) → AreRooted i r roots numbers → AreDeep i 17 numbers
top_deep i r roots numbers rooted_so index k h =
    let m = rooted_so.roots_are.among index k h in
    let x = number_is i [] i.library.application.network.instances rooted_so.top m.0 k rooted_so.are m.1 in
    let one : length (path_at (system_of i) k) ≡ 1 = ap (λ (p : Path). length p) x.2 in
    record { number = x.3; deep = omega (arith, one) }
