-- What is inside an instance: a network of the declaration, with its numbers.
use Rattle.fb_system.proofs.lemmas.Common.{◌≡◌, ℕ, [], map, Option, Some, None, Contains, refl, sym, ◌∙◌, ap, subst, slice_get, option_map, option_and_then, position, flat_map, Name, same_name, Kind, Basic, Event, Composite, named, kind_of, type_named, network_of, inside, kind_of_instance, networks, networks_in, Library, BlockType, CompositeType, Instance, Network, Plan, IsResolved, index_of, type_number, kind_of_number, TypeNumber, NetworkNumbers, Resolved, network_inside}
use Rattle.fb_types.proofs.Common.{event_blocks, type_name}
use Rattle.fb_types.specs.declared.library.BlockType.TheVariants as block
use Rattle.fb_types.proofs.lemmas.lists.Positions.{named-position, position_is}
use Rattle.fb_types.proofs.lemmas.lists.Elements.{Contains-here, Contains-there, Contains-flat_map}
use Rattle.fb_check_names.specs.Numbers.{IsNetwork}
use Rattle.fb_check_names.specs.declared.numbers.TypeNumber.TheVariants as number
use Rattle.fb_types.proofs.lemmas.lists.Options.{and_then_parts, map_parts}
use Rattle.fb_types.proofs.lemmas.names.NameLaws.{named-Contains}
use Rattle.fb_system.specs.Layers.{network_of_block}

-- ---- Composite types

-- no other type has the kind of a composite type
composite_block : (b : BlockType) (t : CompositeType) → kind_of b ≡ Composite t → b ≡ block.Composite t
composite_block (block.Basic s) t h = absurd (cc)
composite_block (block.Composite s) t h = let e : s ≡ t = cc in ap (λ t. block.Composite t) e

-- a composite type by its name is one of the declaration
pub composite_known : (lib : Library) (n : Name) (t : CompositeType) → type_named lib n ≡ Some (Composite t) → Contains lib.blocks (block.Composite t)
composite_known lib n t =
    elim (named (λ e. e.0) n event_blocks) as
    (λ o. elim o [ Some e ↦ Some (Event e.1) | None ↦ option_map kind_of (named type_name n lib.blocks) ] ≡ Some (Composite t) → Contains lib.blocks (block.Composite t)) [
      | Some e ↦ λ h. absurd (cc)
      | None ↦ λ h.
          let b = map_parts kind_of (named type_name n lib.blocks) (Composite t) h in
          subst (λ (b : BlockType). Contains lib.blocks b) (composite_block b.0 t b.2) (named-Contains type_name n lib.blocks b.0 b.1)
    ]

-- the composite type of an instance with a network inside it
pub composite_of_inside :
    (lib : Library) (i : Instance) (net : Network) → inside lib i ≡ Some net → (t : CompositeType) × (type_named lib i.block_type ≡ Some (Composite t)) × (t.network ≡ net)
composite_of_inside lib i net h =
    let k = and_then_parts network_of (kind_of_instance lib i) net h in at_kind lib i net k.0 k.1 k.2
  where
    at_kind :
        (lib : Library) (i : Instance) (net : Network) (k : Kind) → kind_of_instance lib i ≡ Some k → network_of k ≡ Some net
        → (t : CompositeType) × (type_named lib i.block_type ≡ Some (Composite t)) × (t.network ≡ net)
    at_kind lib i net (Basic t) e h = absurd (cc)
    at_kind lib i net (Event k) e h = absurd (cc)
    at_kind lib i net (Composite t) e h = (t, e, let same : t.network ≡ net = cc in same)

-- its network is one of the declaration
pub network_known :
    (lib : Library) (i : Instance) (net : Network) → inside lib i ≡ Some net → (t : CompositeType) × Contains (networks lib) (Some t, net)
network_known lib i net h =
    let t = composite_of_inside lib i net h in
    let there : Contains (flat_map networks_in lib.blocks) (Some t.0, t.0.network) =
    Contains-flat_map networks_in lib.blocks (block.Composite t.0) (Some t.0, t.0.network) (composite_known lib i.block_type t.0 t.1)
    (Contains-here (Some t.0, t.0.network) []) in (
      t.0,
      Contains-there (None, lib.application.network) (flat_map networks_in lib.blocks) (Some t.0, net)
          (subst (λ (net : Network). Contains (flat_map networks_in lib.blocks) (Some t.0, net)) t.2 there),
    )

-- ---- Types by their numbers

-- a name and its number represent one type
type_numbered : (lib : Library) (n : Name) → type_named lib n ≡ option_and_then (kind_of_number lib) (type_number lib n)
type_numbered lib n =
    elim (named (λ e. e.0) n event_blocks) as
    (λ o. elim o [ Some e ↦ Some (Event e.1) | None ↦ option_map kind_of (named type_name n lib.blocks) ]
    ≡ option_and_then (kind_of_number lib) (elim (option_map (λ e. e.1) o) [ Some k ↦ Some (number.Event k) | None ↦ option_map (λ t. number.Declared t) (index_of (map type_name lib.blocks) n) ])) [
      | Some e ↦ refl
      | None ↦
          ap (option_map kind_of) (named-position type_name n lib.blocks)
          ∙ (elim (position (same_name n) (map type_name lib.blocks)) as
          (λ o. option_map kind_of (option_and_then (slice_get lib.blocks) o) ≡ option_and_then (kind_of_number lib) (option_map (λ t. number.Declared t) o))
          [ None ↦ refl | Some t ↦ refl ])
    ]

pub type_by_number :
    (lib : Library) (n : Name) (t : TypeNumber) → type_number lib n ≡ Some t → type_named lib n ≡ kind_of_number lib t
type_by_number lib n t h = type_numbered lib n ∙ ap (option_and_then (kind_of_number lib)) h

-- the kind that a number represents
pub kind_known : (lib : Library) (n : Name) (t : TypeNumber) → type_number lib n ≡ Some t → (k : Kind) × (kind_of_number lib t ≡ Some k)
kind_known lib n t =
    elim (named (λ e. e.0) n event_blocks) as
    (λ o. elim (option_map (λ e. e.1) o) [ Some k ↦ Some (number.Event k) | None ↦ option_map (λ t. number.Declared t) (index_of (map type_name lib.blocks) n) ] ≡ Some t → (k : Kind) × (kind_of_number lib t ≡ Some k)) [
      | Some e ↦ λ h.
          let same : number.Event e.1 ≡ t = cc in (Event e.1, ap (kind_of_number lib) (sym same))
      | None ↦ λ h.
          let index = map_parts (λ t. number.Declared t) (index_of (map type_name lib.blocks) n) t h in
          let b = position_is type_name n lib.blocks index.0 index.1 in
          (kind_of b.0, ap (kind_of_number lib) (sym index.2) ∙ ap (option_map kind_of) b.1)
    ]

-- ---- The network inside an instance by number

-- what is found inside an instance
abbrev pub IsFound : Library → Option Network → Option (Network × NetworkNumbers) → Type 0
IsFound lib None o = o ≡ None
IsFound lib (Some net) o =
    (t : CompositeType) × (x : NetworkNumbers) × (o ≡ Some (net, x)) × IsNetwork lib (Some t, net) x

found_block :
    (lib : Library) (plan : Plan) (r : Resolved) (k : ℕ) (b : BlockType) → IsResolved lib plan r → slice_get lib.blocks k ≡ Some b
    → IsFound lib (network_of (kind_of b)) (network_of_block (slice_get r.blocks k) b)
found_block lib plan r k (block.Basic t) is e = refl
found_block lib plan r k (block.Composite t) is e =
    let c = is.composites k t e in
    (t, c.0, ap (λ (o : Option (Option NetworkNumbers)). network_of_block o (block.Composite t)) c.1, c.2)

found_number :
    (lib : Library) (plan : Plan) (r : Resolved) (t : TypeNumber) → IsResolved lib plan r
    → IsFound lib (option_and_then network_of (kind_of_number lib t)) (network_inside lib r t)
found_number lib plan r (number.Event k) is = refl
found_number lib plan r (number.Declared k) is =
    elim (slice_get lib.blocks k) as
    (λ o. slice_get lib.blocks k ≡ o → IsFound lib (option_and_then network_of (option_map kind_of o)) (option_and_then (network_of_block (slice_get r.blocks k)) o)) [
      | None ↦ λ e. refl
      | Some b ↦ λ e. found_block lib plan r k b is e
    ] refl

pub found_inside :
    (lib : Library) (plan : Plan) (r : Resolved) (i : Instance) (t : TypeNumber) → IsResolved lib plan r → type_number lib i.block_type ≡ Some t
    → IsFound lib (inside lib i) (network_inside lib r t)
found_inside lib plan r i t is h =
    subst (λ (o : Option Kind). IsFound lib (option_and_then network_of o) (network_inside lib r t)) (sym (type_by_number lib i.block_type t h))
    (found_number lib plan r t is)
