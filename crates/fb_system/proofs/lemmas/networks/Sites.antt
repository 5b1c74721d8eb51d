-- Networks at their paths: which composite contains them, and how deep they are.
use Rattle.fb_types.proofs.Common.{◌≡◌, ◌⊎◌, ℕ, zero, suc, ◌+◌, ◌<◌, List, [], ◌∷◌, ◌++◌, map, Option, Some, None, Contains, refl, sym, ◌∙◌, ap, subst, inl, inr, arith, slice_get, option_map, option_and_then, unwrap_or, position, flat_map, codes, Contains-append_left, Contains-append_right, Name, Path, same_name, instance_in, inside, network_at, instance_at, parent, resource_names_of, TooHigh, Twice, OwnedNetwork, NameTwice, networks, instance_names, name_spaces, block_type_names, port_names, basics, algorithm_names, state_names, with_lists, interfaces, parameter_lists, path_text}
use Rattle.fb_types.specs.declared.library.Library.{Library}
use Rattle.fb_types.specs.declared.library.CompositeType.{CompositeType}
use Rattle.fb_types.specs.declared.library.Instance.{Instance}
use Rattle.fb_types.specs.declared.library.Network.{Network}
use Rattle.fb_types.specs.declared.deploy.Plan.{Plan}
use Rattle.fb_types.specs.Joined.{Holds, Descends}
use Rattle.fb_types.specs.declared.library.BlockType.TheVariants as block
use Rattle.fb_types.proofs.lemmas.lists.Elements.{Contains-map}
use Rattle.fb_types.proofs.lemmas.lists.Positions.{position_of_once, named_of_once}
use Rattle.fb_system.specs.declared.layout.InstanceRow.{InstanceRow}
use Rattle.fb_system.specs.Layers.{Around, path_under, route_under}
use Rattle.fb_system.specs.Layouts.{path_of, index_at, route_to, IsParent}
use Rattle.fb_system.proofs.lemmas.networks.InsideInstances.{composite_known, composite_of_inside}
use Rattle.fb_system.proofs.lemmas.networks.Distinct.{AreOnce}

-- ---- Names that differ

pub all_once : (lib : Library) (plan : Plan) → ¬ (NameTwice lib plan) → AreOnce lib
all_once lib plan once = record {
  each = λ n h t.
      let names = instance_names n.1 in
      let types = block_type_names lib ∷ map port_names lib.blocks in
      let algorithms = map algorithm_names (basics lib) in
      let states = map state_names (basics lib) in
      let instances = map (λ (n : OwnedNetwork). instance_names n.1) (networks lib) in
      let withs = flat_map with_lists (interfaces lib) in
      let parameters = flat_map (λ (n : OwnedNetwork). parameter_lists n.1) (networks lib) in
      let among_instances : Contains instances names = Contains-map (λ (n : OwnedNetwork). instance_names n.1) (networks lib) n h in
      let among_all : Contains (name_spaces lib plan) names =
      Contains-append_left (types ++ algorithms ++ states ++ instances ++ withs ++ parameters) (resource_names_of plan ∷ []) names
      (Contains-append_left (types ++ algorithms ++ states ++ instances ++ withs) parameters names
      (Contains-append_left (types ++ algorithms ++ states ++ instances) withs names
      (Contains-append_right (types ++ algorithms ++ states) instances names among_instances))) in
      once (inl (names, among_all, t));
}

-- ---- How deep

-- a network this number of steps below a composite type of the declaration
pub record IsBelow (lib : Library) (steps : ℕ) (net : Network) : Type 0 where
  pub outer : CompositeType
  pub declared : Contains lib.blocks (block.Composite outer)
  pub inner : CompositeType
  pub descends : Descends lib steps outer inner
  pub network : inner.network ≡ net

-- the application's network, or one inside composites, with room for paths of this depth
abbrev pub IsDeep : Library → ℕ → Network → Type 0
IsDeep lib d net = (d ≡ 17) ⊎ ((s : ℕ) × (s + d ≡ 16) × IsBelow lib s net)

descends_more : (lib : Library) (n : ℕ) (t u v : CompositeType) → Descends lib n t u → Holds lib u v → Descends lib (suc n) t v
descends_more lib zero t u v h g = (v, subst (λ (t : CompositeType). Holds lib t v) (sym h) g, refl)
descends_more lib (suc n) t u v h g = (h.0, h.1, descends_more lib n h.0 u v h.2 g)

pub deep_inside :
    (lib : Library) (d : ℕ) (net : Network) (i : Instance) (inner : Network) → IsDeep lib (suc d) net → Contains net.instances i
    → inside lib i ≡ Some inner → IsDeep lib d inner
deep_inside lib d net i inner (inl top) among h =
    let t = composite_of_inside lib i inner h in
    let least : 0 + d ≡ 16 = omega (arith, top) in
    inr (0, least, record { outer = t.0; declared = composite_known lib i.block_type t.0 t.1; inner = t.0; descends = refl; network = t.2 })
deep_inside lib d net i inner (inr below) among h =
    let t = composite_of_inside lib i inner h in
    let b = below.2 in
    let room : below.0 + suc d ≡ 16 = below.1 in
    let less : suc below.0 + d ≡ 16 = omega (arith, room) in
    let holds : Holds lib b.inner t.0 = (i, subst (λ (net : Network). Contains net.instances i) (sym b.network) among, t.1) in
    inr (suc below.0, less, record { outer = b.outer; declared = b.declared; inner = t.0; descends = descends_more lib below.0 b.outer b.inner t.0 b.descends holds; network = t.2 })

-- no composite is deeper than the paths go
pub never_deeper : (lib : Library) (net : Network) → ¬ (TooHigh lib) → ¬ (IsDeep lib 0 net)
never_deeper lib net low (inl top) = absurd (omega (arith, top))
never_deeper lib net low (inr below) =
    let room : below.0 + 0 ≡ 16 = below.1 in
    let steps : below.0 ≡ 16 = omega (arith, room) in
    let b = below.2 in
    low (b.outer, b.inner, b.declared, inr (subst (λ n. Descends lib n b.outer b.inner) steps b.descends))

-- ---- Where a network is

-- the composite around a network, which has an earlier number
pub record IsRound (lib : Library) (p : Path) (number : ℕ) (c : ℕ × InstanceRow) : Type 0 where
  pub earlier : c.0 < number
  pub there : path_of lib c.0 ≡ p
  pub text : c.1.path ≡ path_text p
  pub route : c.1.route ≡ route_to lib p
  pub last : Name
  pub outer : Path
  pub split : p ≡ last ∷ outer

abbrev pub IsAround : Library → Path → ℕ → Around → Type 0
IsAround lib p number None = p ≡ []
IsAround lib p number (Some c) = IsRound lib p number c

pub around_later : (lib : Library) (p : Path) (m n : ℕ) (o : Around) → m < suc n → IsAround lib p m o → IsAround lib p n o
around_later lib p m n None h is = is
around_later lib p m n (Some c) h is = record {
  earlier = let e : c.0 < m = is.earlier in omega (arith, e, h);
  there = is.there;
  text = is.text;
  route = is.route;
  last = is.last;
  outer = is.outer;
  split = is.split;
}

pub text_is : (lib : Library) (p : Path) (number : ℕ) (o : Around) (n : Name) → IsAround lib p number o → path_under o n ≡ path_text (n ∷ p)
text_is lib p number None n is = ap (λ (p : Path). path_text (n ∷ p)) (sym is)
text_is lib p number (Some c) n is =
    ap (λ (z : List ℕ). z ++ codes "." ++ n) (is.text ∙ ap path_text is.split) ∙ ap (λ (p : Path). path_text (n ∷ p)) (sym is.split)

pub route_is : (lib : Library) (p : Path) (number : ℕ) (o : Around) → IsAround lib p number o → route_under o ≡ route_to lib p
route_is lib p number None is = ap (route_to lib) (sym is)
route_is lib p number (Some c) is = is.route

pub parent_is :
    (lib : Library) (p : Path) (number : ℕ) (o : Around) (n : Name) → path_of lib number ≡ n ∷ p → IsAround lib p number o
    → IsParent lib number (option_map (λ (c : ℕ × InstanceRow). c.0) o)
parent_is lib p number None n at is = ap parent at ∙ is
parent_is lib p number (Some c) n at is = (is.earlier, is.there ∙ sym (ap parent at))

-- ---- An instance of a network

pub record IsSite (lib : Library) (p : Path) (net : Network) : Type 0 where
  pub network : network_at lib p ≡ Some net
  pub once : ¬ (Twice (instance_names net))

pub instance_is :
    (lib : Library) (p : Path) (net : Network) (index : ℕ) (i : Instance) → IsSite lib p net → slice_get net.instances index ≡ Some i
    → instance_at lib (i.name ∷ p) ≡ Some i
instance_is lib p net index i site at =
    ap (option_and_then (λ (net : Network). instance_in net i.name)) site.network
    ∙ named_of_once (λ (i : Instance). i.name) net.instances index i site.once at

pub inside_is :
    (lib : Library) (p : Path) (net : Network) (index : ℕ) (i : Instance) → IsSite lib p net → slice_get net.instances index ≡ Some i
    → network_at lib (i.name ∷ p) ≡ inside lib i
inside_is lib p net index i site at = ap (option_and_then (inside lib)) (instance_is lib p net index i site at)

pub index_is :
    (lib : Library) (p : Path) (net : Network) (index : ℕ) (i : Instance) → IsSite lib p net → slice_get net.instances index ≡ Some i
    → index_at lib p i.name ≡ index
index_is lib p net index i site at =
    let P : Option Network → ℕ = λ o. elim o [ None ↦ 0 | Some net ↦ unwrap_or (position (same_name i.name) (instance_names net)) 0 ] in
    ap P site.network
    ∙ ap (λ (o : Option ℕ). unwrap_or o 0) (position_of_once (λ (i : Instance). i.name) net.instances index i site.once at)
