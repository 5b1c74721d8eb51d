-- The networks that the tables have, and the rows of instances.
use Rattle.fb_system.proofs.lemmas.Common.{◌≡◌, ℕ, zero, suc, ◌<◌, ◌-◌, List, [], ◌∷◌, ◌++◌, map, length, get_or, Bor, Option, Some, None, Contains, refl, sym, ◌∙◌, ap, subst, arith, slice_get, option_map, option_and_then, flat_map, option_copied, length-map, same_Some, slice_get_within, slice_get-map, slice_get_read, Name, Path, Kind, Composite, kind_of, kind_at, kind_of_instance, network_at, network_of, inside, instance_at, paths_of, parent, last_of, networks_in, Library, BlockType, CompositeType, Instance, Network, EventKind, NetworkNumbers, TypeNumber, kind_of_number, AreComponents, AreNumbers, IsRow, path_of, index_at, route_to, Layout, InstanceRow, IsThere, IsWired}
use Rattle.fb_types.proofs.Common.{MatchOption}
use Rattle.fb_types.specs.declared.library.BlockType.TheVariants as block
use Rattle.fb_types.proofs.lemmas.lists.Elements.{Contains-here, Contains-there}
use Rattle.fb_check_names.specs.declared.numbers.TypeNumber.TheVariants as number
use Rattle.fb_check_names.specs.Numbers.{IsNetwork}
use Rattle.fb_system.specs.Layouts.{IsParent, IsInNetwork}
use Rattle.fb_system.specs.Networks.{AreTables, IsAround, composite_of, path_around}
use Rattle.fb_types.proofs.lemmas.lists.ByIndex.{element_at, all_at}
use Rattle.fb_system.proofs.lemmas.types.Differing.{instances_once}

-- ---- Elements at indexes

pub last_pushed : (xs : List ℕ) (x : ℕ) → last_of (xs ++ x ∷ []) ≡ Some x
last_pushed [] x = refl
last_pushed (y ∷ []) x = refl
last_pushed (y ∷ z ∷ zs) x = last_pushed (z ∷ zs) x

-- ---- Paths

-- what is inside an instance is the network of its type
network_of_kind : (lib : Library) (n : Name) (p : Path) → network_at lib (n ∷ p) ≡ option_and_then network_of (kind_at lib (n ∷ p))
network_of_kind lib n p =
    elim (instance_at lib (n ∷ p)) as
    (λ o. option_and_then (inside lib) o ≡ option_and_then network_of (option_and_then (kind_of_instance lib) o)) [
      | None ↦ refl
      | Some i ↦ refl
    ]

pub network_by_kind : (lib : Library) (i : ℕ) → IsInNetwork lib i → network_at lib (path_of lib i) ≡ option_and_then network_of (kind_at lib (path_of lib i))
network_by_kind lib i is =
    ap (network_at lib) is.is_path ∙ network_of_kind lib is.instance.name (parent (path_of lib i))
    ∙ ap (λ p. option_and_then network_of (kind_at lib p)) (sym is.is_path)

-- ---- Networks by their numbers

pub wired_top :
    (lib : Library) (layout : Layout) (app : NetworkNumbers) (blocks : List (Option NetworkNumbers)) → AreTables lib layout app blocks → IsWired lib [] app
wired_top lib layout app blocks are =
    record {
      network = lib.application.network;
      is_network = refl;
      once = instances_once lib are.plan (None, lib.application.network) are.once (Contains-here (None, lib.application.network) (flat_map networks_in lib.blocks));
      numbers = are.is_application;
    }

composite_in :
    (bs : List BlockType) (k : ℕ) (t : CompositeType) → slice_get bs k ≡ Some (block.Composite t)
    → Contains (flat_map networks_in bs) (Some t, t.network)
composite_in [] k t h = absurd (cc)
composite_in (block.Basic b ∷ bs) zero t h = absurd (cc)
composite_in (block.Basic b ∷ bs) (suc k) t h = composite_in bs k t h
composite_in (block.Composite u ∷ bs) zero t h =
    let e : u ≡ t = cc in
    subst (λ (v : CompositeType). Contains (flat_map networks_in (block.Composite u ∷ bs)) (Some v, v.network)) e
    (Contains-here (Some u, u.network) (flat_map networks_in bs))
composite_in (block.Composite u ∷ bs) (suc k) t h =
    Contains-there (Some u, u.network) (flat_map networks_in bs) (Some t, t.network) (composite_in bs k t h)

wired_inside :
    (lib : Library) (layout : Layout) (app : NetworkNumbers) (blocks : List (Option NetworkNumbers)) (p : Path) (k : ℕ) (t : CompositeType) (x : NetworkNumbers)
    → AreTables lib layout app blocks → slice_get lib.blocks k ≡ Some (block.Composite t) → slice_get blocks k ≡ Some (Some x)
    → kind_at lib p ≡ Some (Composite t) → network_at lib p ≡ Some t.network → IsWired lib p x
wired_inside lib layout app blocks p k t x are at there kind is =
    let c = are.are_blocks.composites k t at in
    let same_some : Some (Some c.0) ≡ Some (Some x) = sym c.1 ∙ there in
    let same : c.0 ≡ x = cc in
    record {
      network = t.network;
      is_network = is;
      once = instances_once lib are.plan (Some t, t.network) are.once
          (Contains-there (None, lib.application.network) (flat_map networks_in lib.blocks) (Some t, t.network) (composite_in lib.blocks k t at));
      numbers = subst (λ (o : Option CompositeType). IsNetwork lib (o, t.network) x) (ap composite_of (sym kind))
          (subst (λ (x : NetworkNumbers). IsNetwork lib (Some t, t.network) x) same c.2);
    }

-- What the tables have of what is inside an instance.
abbrev pub HasInside : Library → Path → Option NetworkNumbers → Type 0
HasInside lib p o = MatchOption o (network_at lib p ≡ None) (λ x. IsWired lib p x)

declared_inside :
    (lib : Library) (layout : Layout) (app : NetworkNumbers) (blocks : List (Option NetworkNumbers)) (p : Path) (k : ℕ) (b : BlockType) (o : Option NetworkNumbers)
    → AreTables lib layout app blocks → slice_get lib.blocks k ≡ Some b → slice_get blocks k ≡ Some o
    → kind_at lib p ≡ Some (kind_of b) → network_at lib p ≡ network_of (kind_of b) → HasInside lib p o
declared_inside lib layout app blocks p k (block.Basic t) o are at there kind is =
    let none : None ≡ o = same_Some None o (sym (are.are_blocks.basics k t at) ∙ there) in
    subst (λ (o : Option NetworkNumbers). HasInside lib p o) none is
declared_inside lib layout app blocks p k (block.Composite t) None are at there kind is =
    let c = are.are_blocks.composites k t at in
    let clash : Some (Some c.0) ≡ Some None = sym c.1 ∙ there in absurd (cc)
declared_inside lib layout app blocks p k (block.Composite t) (Some x) are at there kind is =
    wired_inside lib layout app blocks p k t x are at there kind is

-- the kind of an instance by the number of its type
row_kind : (lib : Library) (i : ℕ) (r : InstanceRow) (t : TypeNumber) → IsRow lib i r → r.kind ≡ t → kind_of_number lib t ≡ kind_at lib (path_of lib i)
row_kind lib i r t is e = ap (kind_of_number lib) (sym e) ∙ is.numbered ∙ sym is.is_kind

block_of_number : (lib : Library) (k : ℕ) (kind : Kind) → kind_of_number lib (number.Declared k) ≡ Some kind → (b : BlockType) × (slice_get lib.blocks k ≡ Some b) × (kind_of b ≡ kind)
block_of_number lib k kind h =
    elim (slice_get lib.blocks k) as (λ o. slice_get lib.blocks k ≡ o → option_map kind_of o ≡ Some kind → (b : BlockType) × (slice_get lib.blocks k ≡ Some b) × (kind_of b ≡ kind)) [
      | None ↦ λ e g. absurd (cc)
      | Some b ↦ λ e g. (b, e, same_Some (kind_of b) kind g)
    ] refl h

pub inside_declared :
    (lib : Library) (layout : Layout) (app : NetworkNumbers) (blocks : List (Option NetworkNumbers)) (i k : ℕ) (r : InstanceRow) (o : Option NetworkNumbers)
    → AreTables lib layout app blocks → IsRow lib i r → r.kind ≡ number.Declared k → slice_get blocks k ≡ Some o → HasInside lib (path_of lib i) o
inside_declared lib layout app blocks i k r o are is e there =
    let numbered : kind_of_number lib (number.Declared k) ≡ Some is.kind = row_kind lib i r (number.Declared k) is e ∙ is.is_kind in
    let b = block_of_number lib k is.kind numbered in
    let kind : kind_at lib (path_of lib i) ≡ Some (kind_of b.0) = is.is_kind ∙ ap (λ (k : Kind). Some k) (sym b.2) in
    declared_inside lib layout app blocks (path_of lib i) k b.0 o are b.1 there kind
    (network_by_kind lib i is.placed ∙ ap (option_and_then network_of) kind)

-- the index of the type is one of the tables'
pub index_declared :
    (lib : Library) (layout : Layout) (app : NetworkNumbers) (blocks : List (Option NetworkNumbers)) (i k : ℕ) (r : InstanceRow)
    → AreTables lib layout app blocks → IsRow lib i r → r.kind ≡ number.Declared k → k < length blocks
index_declared lib layout app blocks i k r are is e =
    let numbered : kind_of_number lib (number.Declared k) ≡ Some is.kind = row_kind lib i r (number.Declared k) is e ∙ is.is_kind in
    let b = block_of_number lib k is.kind numbered in
    let h : k < length lib.blocks = slice_get_within lib.blocks k b.0 b.1 in
    omega (arith, h, are.are_blocks.counted)

pub inside_event :
    (lib : Library) (i : ℕ) (r : InstanceRow) (k : EventKind) → IsRow lib i r → r.kind ≡ number.Event k → network_at lib (path_of lib i) ≡ None
inside_event lib i r k is e =
    network_by_kind lib i is.placed ∙ ap (option_and_then network_of) (sym (row_kind lib i r (number.Event k) is e))

row_wired :
    (lib : Library) (layout : Layout) (app : NetworkNumbers) (blocks : List (Option NetworkNumbers)) (i : ℕ) (r : InstanceRow) (t : TypeNumber) (net : Network)
    → AreTables lib layout app blocks → IsRow lib i r → r.kind ≡ t → network_at lib (path_of lib i) ≡ Some net
    → (x : NetworkNumbers) × IsWired lib (path_of lib i) x
row_wired lib layout app blocks i r (number.Event k) net are is e h =
    let none : None ≡ Some net = sym (inside_event lib i r k is e) ∙ h in absurd (cc)
row_wired lib layout app blocks i r (number.Declared k) net are is e h =
    let o = element_at blocks k (index_declared lib layout app blocks i k r are is e) in
    elim o.0 as (λ o. HasInside lib (path_of lib i) o → (x : NetworkNumbers) × IsWired lib (path_of lib i) x) [
      | None ↦ λ none. absurd (let clash : None ≡ Some net = sym none ∙ h in cc)
      | Some x ↦ λ wired. (x, wired)
    ] (inside_declared lib layout app blocks i k r o.0 are is e o.1)

-- the row of an instance
pub row_there :
    (lib : Library) (layout : Layout) (app : NetworkNumbers) (blocks : List (Option NetworkNumbers)) (i : ℕ)
    → AreTables lib layout app blocks → i < length (paths_of lib) → (r : InstanceRow) × IsRow lib i r
row_there lib layout app blocks i are h =
    let r = element_at layout.rows i (let c = are.is_layout.counted in omega (arith, h, c)) in
    (r.0, are.is_layout.rows i r.0 r.1)

-- each network that an instance or the application has is one of the tables'
pub around_wired :
    (lib : Library) (layout : Layout) (app : NetworkNumbers) (blocks : List (Option NetworkNumbers)) (around : Option ℕ) (net : Network)
    → AreTables lib layout app blocks → IsAround lib around → network_at lib (path_around lib around) ≡ Some net
    → (x : NetworkNumbers) × IsWired lib (path_around lib around) x
around_wired lib layout app blocks None net are within h = (app, wired_top lib layout app blocks are)
around_wired lib layout app blocks (Some i) net are within h =
    let r = row_there lib layout app blocks i are within in
    row_wired lib layout app blocks i r.0 r.0.kind net are r.1 refl h

-- ---- Where an instance is

pub parent_around : (lib : Library) (i : ℕ) (o : Option ℕ) → IsParent lib i o → path_around lib o ≡ parent (path_of lib i)
parent_around lib i None h = sym h
parent_around lib i (Some j) h = h.1

pub parent_within : (lib : Library) (i : ℕ) (o : Option ℕ) → i < length (paths_of lib) → IsParent lib i o → IsAround lib o
parent_within lib i None within h = tt
parent_within lib i (Some j) within h = omega (arith, within, h.0)

pub last_of_route : (lib : Library) (i : ℕ) (r : InstanceRow) → (is : IsRow lib i r) → last_of r.route ≡ Some is.placed.index
last_of_route lib i r is =
    let n = is.placed.instance.name in
    let p = parent (path_of lib i) in
    ap last_of is.route ∙ ap (λ (q : Path). last_of (route_to lib q)) is.placed.is_path ∙ last_pushed (route_to lib p) (index_at lib p n)
    ∙ ap (λ k. Some k) is.placed.is_index

pub stands_there : (lib : Library) (i : ℕ) (r : InstanceRow) → (is : IsRow lib i r) → IsThere lib (parent (path_of lib i)) (last_of r.route) (path_of lib i)
stands_there lib i r is =
    let s = is.placed in
    subst (λ (o : Option ℕ). IsThere lib (parent (path_of lib i)) o (path_of lib i)) (sym (last_of_route lib i r is))
    (s.network, s.instance, s.is_network, s.is_instance, s.is_path)

-- ---- Components

numbers_of : (lib : Library) (p : Path) (net : Network) (ks : List ℕ) → AreComponents lib p ks → network_at lib p ≡ Some net → AreNumbers lib p net.instances ks
numbers_of lib p net ks are is =
    let P : Option Network → Type 0 = λ o. elim o [ None ↦ ks ≡ [] | Some net ↦ AreNumbers lib p net.instances ks ] in
    subst P is are

pub component_within :
    (lib : Library) (p a : Path) (j : ℕ) (ks : List ℕ) → AreComponents lib p ks → IsThere lib p (Some j) a → j < length ks
component_within lib p a j ks are h =
    let n = numbers_of lib p h.0 ks are h.2 in
    let counted : length ks ≡ length h.0.instances =
    sym (length-map ks (path_of lib)) ∙ ap length n.paths ∙ length-map h.0.instances (λ (i : Instance). i.name ∷ p) in
    let within : j < length h.0.instances = slice_get_within h.0.instances j h.1 h.3 in
    omega (arith, within, counted)

pub component_path :
    (lib : Library) (p a : Path) (j m : ℕ) (ks : List ℕ) → AreComponents lib p ks → IsThere lib p (Some j) a → slice_get ks j ≡ Some m → path_of lib m ≡ a
component_path lib p a j m ks are h at =
    let n = numbers_of lib p h.0 ks are h.2 in
    let f : Instance → Path = λ i. i.name ∷ p in
    let here : slice_get (map (path_of lib) ks) j ≡ Some (path_of lib m) = slice_get-map (path_of lib) ks j ∙ ap (option_map (path_of lib)) at in
    let there : slice_get (map f h.0.instances) j ≡ Some (f h.1) = slice_get-map f h.0.instances j ∙ ap (option_map f) h.3 in
    same_Some (path_of lib m) (f h.1) (sym here ∙ ap (λ (ps : List Path). slice_get ps j) n.paths ∙ there) ∙ sym h.4

pub number_within :
    (lib : Library) (p a : Path) (j m : ℕ) (ks : List ℕ) → AreComponents lib p ks → IsThere lib p (Some j) a → slice_get ks j ≡ Some m → m < length (paths_of lib)
number_within lib p a j m ks are h at =
    let n = numbers_of lib p h.0 ks are h.2 in all_at (λ k. k < length (paths_of lib)) ks j m n.within at

-- the last element of a list
pub last_is : (xs : List ℕ) → slice_get xs (length xs - 1) ≡ last_of xs
last_is [] = refl
last_is (x ∷ []) = refl
last_is (x ∷ y ∷ ys) =
    let e : suc (suc (length ys)) - 1 ≡ suc (suc (length ys) - 1) = omega arith in
    ap (slice_get (x ∷ y ∷ ys)) e ∙ last_is (y ∷ ys)

-- the row that is read at an instance's number
pub row_read :
    (lib : Library) (layout : Layout) (app : NetworkNumbers) (blocks : List (Option NetworkNumbers)) (i : ℕ) (rows : List InstanceRow) (r : InstanceRow)
    → AreTables lib layout app blocks → i < length (paths_of lib) → rows ≡ layout.rows → r ≡ get_or rows i r → IsRow lib i r
row_read lib layout app blocks i rows r are h e read =
    let c = are.is_layout.counted in
    let within : i < length rows = let h' : i < length layout.rows = omega (arith, h, c) in subst (λ (rows : List InstanceRow). i < length rows) (sym e) h' in
    are.is_layout.rows i r (ap (λ (rows : List InstanceRow). slice_get rows i) (sym e) ∙ slice_get_read rows (length rows) i r refl within read)

-- ---- What is found of a network

pub top_found :
    (lib : Library) (layout : Layout) (app : NetworkNumbers) (blocks : List (Option NetworkNumbers)) (around : Option ℕ)
    → AreTables lib layout app blocks → around ≡ None → IsWired lib (path_around lib around) app
top_found lib layout app blocks around are e =
    subst (λ (o : Option ℕ). IsWired lib (path_around lib o) app) (sym e) (wired_top lib layout app blocks are)

seen_inside : (lib : Library) (p : Path) (s : Option (Bor NetworkNumbers)) (o : Option NetworkNumbers) → option_copied s ≡ o → HasInside lib p o
    → MatchOption s (network_at lib p ≡ None) (λ w. IsWired lib p w.now)
seen_inside lib p s o e has =
    let h : HasInside lib p (option_copied s) = subst (λ (o : Option NetworkNumbers). HasInside lib p o) (sym e) has in
    elim s as (λ s. HasInside lib p (option_copied s) → MatchOption s (network_at lib p ≡ None) (λ w. IsWired lib p w.now)) [
      | None ↦ λ h. h
      | Some x ↦ λ h. h
    ] h

pub inside_found :
    (lib : Library) (layout : Layout) (app : NetworkNumbers) (blocks items : List (Option NetworkNumbers)) (around : Option ℕ) (i k : ℕ) (r : InstanceRow)
    (o : Option NetworkNumbers) (s : Option (Bor NetworkNumbers))
    → AreTables lib layout app blocks → IsRow lib i r → r.kind ≡ number.Declared k → around ≡ Some i → items ≡ blocks → o ≡ get_or items k o
    → option_copied s ≡ o → MatchOption s (network_at lib (path_around lib around) ≡ None) (λ w. IsWired lib (path_around lib around) w.now)
inside_found lib layout app blocks items around i k r o s are is kind e same read copied =
    let P : Option ℕ → Type 0 = λ around. MatchOption s (network_at lib (path_around lib around) ≡ None) (λ w. IsWired lib (path_around lib around) w.now) in
    let within = index_declared lib layout app blocks i k r are is kind in
    let there : slice_get blocks k ≡ Some o =
    slice_get_read blocks (length blocks) k o refl within (subst (λ (xs : List (Option NetworkNumbers)). o ≡ get_or xs k o) same read) in
    subst P (sym e) (seen_inside lib (path_of lib i) s o copied (inside_declared lib layout app blocks i k r o are is kind there))
