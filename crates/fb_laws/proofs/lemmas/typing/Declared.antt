-- Kinds and networks are those of the declaration.
use Rattle.fb_types.proofs.Common.{◌≡◌, ◌⊎◌, inl, inr, refl, sym, subst, ap, ◌∙◌, true, false, cond, List, [], ◌∷◌, Option, Some, None, Contains, option_map, option_and_then, flat_map, Name, Path, same_name, Kind, Basic, Event, Composite, named, event_blocks, kind_of, type_name, type_named, network_of, inside, kind_of_instance, network_at, instance_at, kind_at, networks, networks_in, same_Some}
use Rattle.fb_types.specs.declared.event_kind.EventKind.{EventKind}
use Rattle.fb_types.specs.declared.library.Library.{Library}
use Rattle.fb_types.specs.declared.library.BlockType.{BlockType}
use Rattle.fb_types.specs.declared.library.CompositeType.{CompositeType}
use Rattle.fb_types.specs.declared.library.Network.{Network}
use Rattle.fb_types.specs.declared.library.BlockType.TheVariants as block
use Rattle.fb_types.proofs.lemmas.lists.Options.{and_then_parts, map_parts}
use Rattle.fb_types.proofs.lemmas.lists.Elements.{Contains-here, Contains-there, Contains-flat_map}
use Rattle.fb_types.proofs.lemmas.names.NameLaws.{same_from_same_name, named-Contains}

-- ---- Elements of lists and of options

-- an element that is found by a name has the name
pub named-name : {A : Type 0} (f : A → Name) (n : Name) (xs : List A) (x : A) → named f n xs ≡ Some x → f x ≡ n
named-name f n [] x h = absurd cc
named-name {A} f n (y ∷ ys) x h =
    elim (same_name (f y) n) as (λ b. same_name (f y) n ≡ b → cond b (Some y) (named f n ys) ≡ Some x → f x ≡ n) [
      | true ↦ λ e h. ap f (sym (same_Some y x h)) ∙ same_from_same_name (f y) n e
      | false ↦ λ e h. named-name f n ys x h
    ] refl h

-- ---- Kinds

-- a kind is an event block's, or that of a block type of the declaration
abbrev pub IsDeclared : Library → Kind → Type 0
IsDeclared lib k = ((e : EventKind) × (k ≡ Event e)) ⊎ ((b : BlockType) × Contains lib.blocks b × (k ≡ kind_of b))

pub type-declared : (lib : Library) (n : Name) (k : Kind) → type_named lib n ≡ Some k → IsDeclared lib k
type-declared lib n k =
    elim (named (λ e. e.0) n event_blocks) as
    (λ o. elim o [ Some e ↦ Some (Event e.1) | None ↦ option_map kind_of (named type_name n lib.blocks) ] ≡ Some k → IsDeclared lib k) [
      | Some e ↦ λ h. inl (e.1, sym (same_Some (Event e.1) k h))
      | None ↦ λ h.
          let b = map_parts kind_of (named type_name n lib.blocks) k h in
          inr (b.0, named-Contains type_name n lib.blocks b.0 b.1, sym b.2)
    ]

pub kind-declared : (lib : Library) (p : Path) (k : Kind) → kind_at lib p ≡ Some k → IsDeclared lib k
kind-declared lib p k h =
    let i = and_then_parts (kind_of_instance lib) (instance_at lib p) k h in type-declared lib i.0.block_type k i.2

composite-declared : (lib : Library) (t : CompositeType) → IsDeclared lib (Composite t) → Contains lib.blocks (block.Composite t)
composite-declared lib t (inl e) = absurd (other e.0 e.1)
  where
    other : (k : EventKind) → Composite t ≡ Event k → ⊥
    other k h = cc
composite-declared lib t (inr b) = go b.0 b.1 b.2
  where
    go : (b : BlockType) → Contains lib.blocks b → Composite t ≡ kind_of b → Contains lib.blocks (block.Composite t)
    go (block.Basic s) c h = absurd cc
    go (block.Composite s) c h = let e : s ≡ t = cc in subst (λ (z : CompositeType). Contains lib.blocks (block.Composite z)) e c

-- ---- Networks

-- A network at a path is one of the declaration, and inside the composite type of the instance there.
pub record IsNetworkAt (lib : Library) (p : Path) (net : Network) : Type 0 where
  pub composite : Option CompositeType
  pub declared : Contains (networks lib) (composite, net)
  pub around : (t : CompositeType) → composite ≡ Some t → kind_at lib p ≡ Some (Composite t)

inside-at : (lib : Library) (p : Path) (net : Network) (k : Kind) → kind_at lib p ≡ Some k → network_of k ≡ Some net → IsNetworkAt lib p net
inside-at lib p net (Basic t) is h = absurd cc
inside-at lib p net (Event k) is h = absurd cc
inside-at lib p net (Composite t) is h = record {
  composite = Some t;
  declared = subst (λ (z : Network). Contains (networks lib) (Some t, z)) (same_Some t.network net h)
      (Contains-there (None, lib.application.network) (flat_map networks_in lib.blocks) (Some t, t.network)
      (Contains-flat_map networks_in lib.blocks (block.Composite t) (Some t, t.network) (composite-declared lib t (kind-declared lib p (Composite t) is))
      (Contains-here (Some t, t.network) [])));
  around = λ s e. is ∙ ap (λ (o : Option CompositeType). option_map Composite o) e;
}

pub network-declared : (lib : Library) (p : Path) (net : Network) → network_at lib p ≡ Some net → IsNetworkAt lib p net
network-declared lib [] net h = record {
  composite = None;
  declared = subst (λ (z : Network). Contains (networks lib) (None, z)) (same_Some lib.application.network net h)
      (Contains-here (None, lib.application.network) (flat_map networks_in lib.blocks));
  around = λ t e. absurd cc;
}
network-declared lib (n ∷ p) net h =
    let i = and_then_parts (inside lib) (instance_at lib (n ∷ p)) net h in
    let k = and_then_parts network_of (kind_of_instance lib i.0) net i.2 in
    inside-at lib (n ∷ p) net k.0 (ap (option_and_then (kind_of_instance lib)) i.1 ∙ k.1) k.2
