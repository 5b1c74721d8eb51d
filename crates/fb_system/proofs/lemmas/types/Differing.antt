-- The names of the ports of a type differ, and so do the names of the instances of a network.
use Rattle.fb_system.proofs.lemmas.Common.{◌≡◌, List, [], ◌∷◌, ◌++◌, map, Some, None, Contains, refl, sym, ◌∙◌, ap, subst, inl, inr, slice_get, option_map, option_and_then, flat_map, append_assoc, Contains-append_left, Contains-append_right, Name, Path, Kind, Event, variable_names, ports_of, ports_of_event_block, kind_of, type_named, kind_at, kind_of_instance, instance_at, Twice, OwnedNetwork, NameTwice, networks, instance_names, event_ins, event_outs, data_ins, data_outs, Library, BlockType, Ports, EventKind, Plan, TypeNumber, type_number, kind_of_number}
use Rattle.fb_types.proofs.Common.{resource_names_of, port_names, internals_of, name_spaces, block_type_names, algorithm_names, state_names, basics, with_lists, interfaces, parameter_lists}
use Rattle.fb_types.proofs.lemmas.lists.TwiceLaws.{Twice-append_left, Twice-append_right}
use Rattle.fb_types.proofs.lemmas.lists.Elements.{Contains-nil, Contains-cons_cases, Contains-there, Contains-map}
use Rattle.fb_types.proofs.lemmas.lists.ByIndex.{element_of_index}
use Rattle.fb_types.proofs.lemmas.events.EventNames.{ports_once}
use Rattle.fb_check_names.specs.declared.numbers.TypeNumber.TheVariants as number
use Rattle.fb_check_names.proofs.lemmas.numbers.Lookups.{type_named-number}

-- ---- Parts of a list in which nothing occurs twice

Twice-both : (xs ys : List Name) (n : Name) → Contains xs n → Contains ys n → Twice (xs ++ ys)
Twice-both [] ys n c d = absurd (Contains-nil n c)
Twice-both (x ∷ xs) ys n c d =
    elim (Contains-cons_cases x xs n c) [
      | inl e ↦ inl (Contains-append_right xs ys x (subst (λ (m : Name). Contains ys m) (sym e) d))
      | inr rest ↦ inr (Twice-both xs ys n rest d)
    ]

-- The names of each kind of ports differ, and no name is of both kinds.
pub record Differ (first second : List Name) : Type 0 where
  pub first_once : ¬ (Twice first)
  pub second_once : ¬ (Twice second)
  pub apart : (n : Name) → Contains first n → Contains second n → ⊥

differ : (xs ys : List Name) → ¬ (Twice (xs ++ ys)) → Differ xs ys
differ xs ys once =
    record {
      first_once = λ t. once (Twice-append_left xs ys t);
      second_once = λ t. once (Twice-append_right xs ys t);
      apart = λ n c d. once (Twice-both xs ys n c d);
    }

pub flip : (xs ys : List Name) → Differ xs ys → Differ ys xs
flip xs ys d = record { first_once = d.second_once; second_once = d.first_once; apart = λ n a b. d.apart n b a }

-- ---- The ports of a type

pub record ArePortsApart (p : Ports) : Type 0 where
  pub events : Differ (event_ins p) (event_outs p)
  pub variables : Differ (data_ins p) (data_outs p)

abbrev all_names : Ports → List Name
all_names p = (event_ins p ++ event_outs p) ++ (data_ins p ++ data_outs p)

apart_from_once : (p : Ports) → ¬ (Twice (all_names p)) → ArePortsApart p
apart_from_once p once =
    let events = event_ins p ++ event_outs p in
    let data_names = data_ins p ++ data_outs p in
    record {
      events = differ (event_ins p) (event_outs p) (λ t. once (Twice-append_left events data_names t));
      variables = differ (data_ins p) (data_outs p) (λ t. once (Twice-append_right events data_names t));
    }

event_block_apart : (k : EventKind) → ArePortsApart (ports_of_event_block k)
event_block_apart k =
    apart_from_once (ports_of_event_block k) (ports_once k)

-- ---- Name spaces

abbrev types_space : Library → List (List Name)
types_space lib = block_type_names lib ∷ map port_names lib.blocks

abbrev instances_space : Library → List (List Name)
instances_space lib = map (λ n. instance_names n.1) (networks lib)

among_types : (lib : Library) (plan : Plan) (ns : List Name) → Contains (types_space lib) ns → Contains (name_spaces lib plan) ns
among_types lib plan ns h =
    let types = types_space lib in
    let algorithms = map algorithm_names (basics lib) in
    let states = map state_names (basics lib) in
    let instances = instances_space lib in
    let withs = flat_map with_lists (interfaces lib) in
    let parameters = flat_map (λ (n : OwnedNetwork). parameter_lists n.1) (networks lib) in
    Contains-append_left (types ++ algorithms ++ states ++ instances ++ withs ++ parameters) (resource_names_of plan ∷ []) ns
    (Contains-append_left (types ++ algorithms ++ states ++ instances ++ withs) parameters ns
    (Contains-append_left (types ++ algorithms ++ states ++ instances) withs ns
    (Contains-append_left (types ++ algorithms ++ states) instances ns
    (Contains-append_left (types ++ algorithms) states ns
    (Contains-append_left types algorithms ns h)))))

among_instances : (lib : Library) (plan : Plan) (ns : List Name) → Contains (instances_space lib) ns → Contains (name_spaces lib plan) ns
among_instances lib plan ns h =
    let types = types_space lib in
    let algorithms = map algorithm_names (basics lib) in
    let states = map state_names (basics lib) in
    let instances = instances_space lib in
    let withs = flat_map with_lists (interfaces lib) in
    let parameters = flat_map (λ (n : OwnedNetwork). parameter_lists n.1) (networks lib) in
    Contains-append_left (types ++ algorithms ++ states ++ instances ++ withs ++ parameters) (resource_names_of plan ∷ []) ns
    (Contains-append_left (types ++ algorithms ++ states ++ instances ++ withs) parameters ns
    (Contains-append_left (types ++ algorithms ++ states ++ instances) withs ns
    (Contains-append_right (types ++ algorithms ++ states) instances ns h)))

-- the names of the instances of each network differ
pub instances_once : (lib : Library) (plan : Plan) (n : OwnedNetwork) → ¬ (NameTwice lib plan) → Contains (networks lib) n → ¬ (Twice (instance_names n.1))
instances_once lib plan n once there twice =
    once (inl (
      instance_names n.1,
      among_instances lib plan (instance_names n.1) (Contains-map (λ (n : OwnedNetwork). instance_names n.1) (networks lib) n there),
      twice,
    ))

-- the ports of a type of the declaration
declared_apart : (lib : Library) (plan : Plan) (b : BlockType) → ¬ (NameTwice lib plan) → Contains lib.blocks b → ArePortsApart (ports_of (kind_of b))
declared_apart lib plan b once there =
    let p : Ports = ports_of (kind_of b) in
    let internals = variable_names (internals_of (kind_of b)) in
    let among : Contains (types_space lib) (port_names b) =
    Contains-there (block_type_names lib) (map port_names lib.blocks) (port_names b) (Contains-map port_names lib.blocks b there) in
    let names : port_names b ≡ all_names p ++ internals =
    ap (λ (ns : List Name). ns ++ internals) (append_assoc (event_ins p ++ event_outs p) (data_ins p) (data_outs p)) in
    apart_from_once p
    (λ t. once (inl (
      port_names b,
      among_types lib plan (port_names b) among,
      subst (λ (ns : List Name). Twice ns) (sym names) (Twice-append_left (all_names p) internals t),
    )))

number_apart : (lib : Library) (plan : Plan) (t : TypeNumber) (k : Kind) → ¬ (NameTwice lib plan) → kind_of_number lib t ≡ Some k → ArePortsApart (ports_of k)
number_apart lib plan (number.Event e) k once h =
    let same : Event e ≡ k = cc in
    let P : Kind → Type 0 = λ k. ArePortsApart (ports_of k) in
    subst P same (event_block_apart e)
number_apart lib plan (number.Declared t) k once h =
    elim (slice_get lib.blocks t) as (λ o. slice_get lib.blocks t ≡ o → option_map kind_of o ≡ Some k → ArePortsApart (ports_of k)) [
      | None ↦ λ e g. absurd (cc)
      | Some b ↦ λ e g.
          let same : kind_of b ≡ k = cc in
          let P : Kind → Type 0 = λ k. ArePortsApart (ports_of k) in
          subst P same (declared_apart lib plan b once (element_of_index lib.blocks t b e))
    ] refl h

pub type_apart : (lib : Library) (plan : Plan) (n : Name) (k : Kind) → ¬ (NameTwice lib plan) → type_named lib n ≡ Some k → ArePortsApart (ports_of k)
type_apart lib plan n k once h =
    elim (type_number lib n) as (λ o. option_and_then (kind_of_number lib) o ≡ Some k → ArePortsApart (ports_of k)) [
      | None ↦ λ g. absurd (cc)
      | Some t ↦ λ g. number_apart lib plan t k once g
    ] (sym (type_named-number lib n) ∙ h)

-- the ports of the instance at a path
pub kind_apart : (lib : Library) (plan : Plan) (p : Path) (k : Kind) → ¬ (NameTwice lib plan) → kind_at lib p ≡ Some k → ArePortsApart (ports_of k)
kind_apart lib plan p k once h =
    elim (instance_at lib p) as (λ o. option_and_then (kind_of_instance lib) o ≡ Some k → ArePortsApart (ports_of k)) [
      | None ↦ λ g. absurd (cc)
      | Some i ↦ λ g. type_apart lib plan i.block_type k once g
    ] h
