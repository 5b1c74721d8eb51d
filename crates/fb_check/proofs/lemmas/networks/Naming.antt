-- What the numbers of types and the indexes of ports say of the names that they represent.
use Rattle.fb_check.proofs.lemmas.Common.{◌≡◌, ℕ, zero, suc, List, [], ◌∷◌, ◌++◌, map, Some, None, Contains, refl, ◌∙◌, ap, subst, inl, inr, slice_get, option_map, option_and_then, flat_map, Contains-append_left, Contains-append_right, Name, Kind, Event, event_names, variable_names, ports_of, ports_of_event_block, kind_of, type_named, resource_names_of, Twice, OwnedNetwork, NameTwice, networks, networks_in, port_names, block_type_names, algorithm_names, state_names, basics, instance_names, with_lists, interfaces, parameter_lists, Library, BlockType, CompositeType, Ports, EventKind, Plan, TypeNumber, type_number, kind_of_number}
use Rattle.fb_types.proofs.Common.{internals_of, name_spaces}
use Rattle.fb_types.specs.declared.library.BlockType.TheVariants as block
use Rattle.fb_types.proofs.lemmas.lists.TwiceLaws.{Twice-append_left, Twice-both}
use Rattle.fb_types.proofs.lemmas.lists.Elements.{Contains-nil, Contains-cons_cases, Contains-here, Contains-there, Contains-map}
use Rattle.fb_types.proofs.lemmas.lists.ByIndex.{element_of_index}
use Rattle.fb_types.proofs.lemmas.events.EventNames.{variables_once}
use Rattle.fb_check_names.specs.declared.numbers.TypeNumber.TheVariants as number
use Rattle.fb_check_names.proofs.lemmas.numbers.Lookups.{type_named-number}

-- ---- Types

pub type_by_number :
    (lib : Library) (n : Name) (t : TypeNumber) → type_number lib n ≡ Some t → type_named lib n ≡ kind_of_number lib t
type_by_number lib n t h = type_named-number lib n ∙ ap (option_and_then (kind_of_number lib)) h

-- ---- Networks

-- the composite type that contains a network other than the application's
pub composite_at :
    (bs : List BlockType) (n : OwnedNetwork) → Contains (flat_map networks_in bs) n
    → (k : ℕ) × (t : CompositeType) × (slice_get bs k ≡ Some (block.Composite t)) × ((Some t, t.network) ≡ n)
composite_at [] n h = absurd (Contains-nil n h)
composite_at (block.Basic b ∷ bs) n h = let r = composite_at bs n h in (suc r.0, r.1, r.2, r.3)
composite_at (block.Composite t ∷ bs) n h =
    elim (Contains-cons_cases (Some t, t.network) (flat_map networks_in bs) n h) [
      | inl e ↦ (0, t, refl, e)
      | inr rest ↦ let r = composite_at bs n rest in (suc r.0, r.1, r.2, r.3)
    ]

pub composite_in :
    (bs : List BlockType) (k : ℕ) (t : CompositeType) → slice_get bs k ≡ Some (block.Composite t)
    → Contains (flat_map networks_in bs) (Some t, t.network)
composite_in [] k t h = absurd (cc)
composite_in (block.Basic b ∷ bs) zero t h = absurd (cc)
composite_in (block.Basic b ∷ bs) (suc k) t h = composite_in bs k t h
composite_in (block.Composite u ∷ bs) zero t h =
    let e : u ≡ t = cc in
    subst (λ (v : CompositeType). Contains (flat_map networks_in (block.Composite u ∷ bs)) (Some v, v.network)) e
    (Contains-here (Some u, u.network) (flat_map networks_in bs))
composite_in (block.Composite u ∷ bs) (suc k) t h =
    Contains-there (Some u, u.network) (flat_map networks_in bs) (Some t, t.network) (composite_in bs k t h)

-- ---- Names of variables that differ

-- No data input of an interface has the name of a data output.
abbrev pub IsApart : Ports → Type 0
IsApart p = (n : Name) → Contains (variable_names p.inputs) n → Contains (variable_names p.outputs) n → ⊥

event_block_apart : (k : EventKind) → IsApart (ports_of_event_block k)
event_block_apart k n i o =
    variables_once k (Twice-both (variable_names (ports_of_event_block k).inputs) (variable_names (ports_of_event_block k).outputs) n i o)

-- the variables of a type of the declaration
declared_apart : (lib : Library) (plan : Plan) (b : BlockType) → ¬ (NameTwice lib plan) → Contains lib.blocks b → IsApart (ports_of (kind_of b))
declared_apart lib plan b once h n i o =
    let p : Ports = ports_of (kind_of b) in
    let events = event_names p.event_inputs ++ event_names p.event_outputs in
    let inputs = variable_names p.inputs in
    let outputs = variable_names p.outputs in
    let internals = variable_names (internals_of (kind_of b)) in
    let types = block_type_names lib ∷ map port_names lib.blocks in
    let algorithms = map algorithm_names (basics lib) in
    let states = map state_names (basics lib) in
    let instances = map (λ (n : OwnedNetwork). instance_names n.1) (networks lib) in
    let withs = flat_map with_lists (interfaces lib) in
    let parameters = flat_map (λ (n : OwnedNetwork). parameter_lists n.1) (networks lib) in
    let among_types : Contains types (port_names b) =
    Contains-there (block_type_names lib) (map port_names lib.blocks) (port_names b) (Contains-map port_names lib.blocks b h) in
    let among_all : Contains (name_spaces lib plan) (port_names b) =
    Contains-append_left (types ++ algorithms ++ states ++ instances ++ withs ++ parameters) (resource_names_of plan ∷ []) (port_names b)
    (Contains-append_left (types ++ algorithms ++ states ++ instances ++ withs) parameters (port_names b)
    (Contains-append_left (types ++ algorithms ++ states ++ instances) withs (port_names b)
    (Contains-append_left (types ++ algorithms ++ states) instances (port_names b)
    (Contains-append_left (types ++ algorithms) states (port_names b)
    (Contains-append_left types algorithms (port_names b) among_types))))) in
    let twice : Twice (port_names b) =
    Twice-append_left (events ++ inputs ++ outputs) internals
    (Twice-both (events ++ inputs) outputs n (Contains-append_right events inputs n i) o) in
    once (inl (port_names b, among_all, twice))

pub kind_apart :
    (lib : Library) (plan : Plan) (t : TypeNumber) (k : Kind) → ¬ (NameTwice lib plan) → kind_of_number lib t ≡ Some k → IsApart (ports_of k)
kind_apart lib plan (number.Event e) k once h =
    let same : Event e ≡ k = cc in
    let P : Kind → Type 0 = λ k. IsApart (ports_of k) in
    subst P same (event_block_apart e)
kind_apart lib plan (number.Declared t) k once h =
    elim (slice_get lib.blocks t) as (λ o. slice_get lib.blocks t ≡ o → option_map kind_of o ≡ Some k → IsApart (ports_of k)) [
      | None ↦ λ e g. absurd (cc)
      | Some b ↦ λ e g.
          let same : kind_of b ≡ k = cc in
          let P : Kind → Type 0 = λ k. IsApart (ports_of k) in
          subst P same (declared_apart lib plan b once (element_of_index lib.blocks t b e))
    ] refl h

pub composite_apart :
    (lib : Library) (plan : Plan) (k : ℕ) (t : CompositeType) → ¬ (NameTwice lib plan) → slice_get lib.blocks k ≡ Some (block.Composite t) → IsApart t.ports
composite_apart lib plan k t once h = declared_apart lib plan (block.Composite t) once (element_of_index lib.blocks k (block.Composite t) h)
