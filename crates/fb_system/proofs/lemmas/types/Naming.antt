-- What accepted names guarantee of an instance: the variables of its type differ, and its parameters name inputs, each
-- once.
use Rattle.fb_system.proofs.lemmas.Common.{◌≡◌, ◌⊎◌, ℕ, List, [], ◌∷◌, ◌++◌, Option, Some, None, Contains, refl, sym, ◌∙◌, ap, subst, inl, inr, append_assoc, flat_map, option_map, option_and_then, Contains-append_right, same_Some, Name, Path, Kind, Event, named, event_names, ports_of, variable_names, kind_of, type_named, network_of, instance_in, kind_of_instance, inside, network_at, instance_at, Twice, OwnedNetwork, NameTwice, networks, networks_in, NameUnknown, data_ins, EventKind, Plan, BlockType, Instance, Library, Network, Ports, each_or_none, index_of, parameter_numbers, parameter_names}
use Rattle.fb_types.proofs.Common.{event_blocks, type_name, internals_of, port_names, parameter_lists, Required, all_of, required_parameters, required_types}
use Rattle.fb_types.specs.declared.library.BlockType.TheVariants as block
use Rattle.fb_check_names.specs.GivenTwice.{NetworkTwice}
use Rattle.fb_types.proofs.lemmas.lists.TwiceLaws.{Twice-append_left, Twice-append_right}
use Rattle.fb_types.proofs.lemmas.names.NameLaws.{named-Contains}
use Rattle.fb_types.proofs.lemmas.lists.Elements.{Contains-here, Contains-there, Contains-map, Contains-flat_map}
use Rattle.fb_types.proofs.lemmas.events.EventNames.{variables_once as event_variables_once}
use Rattle.fb_check_names.proofs.lemmas.twice.NameTwice.{block_twice, network_twice}
use Rattle.fb_check_names.proofs.lemmas.unknown.Resolving.{of_network}

-- ---- The variables of a type

-- The data inputs and data outputs of an interface have different names.
pub record AreOnce (p : Ports) : Type 0 where
  pub once : ¬ (Twice (variable_names p.inputs ++ variable_names p.outputs))

ports_once : (lib : Library) (plan : Plan) (t : BlockType) → ¬ (NameTwice lib plan) → Contains lib.blocks t → ¬ (Twice (port_names t))
ports_once lib plan (block.Basic b) once c t = once (block_twice lib plan (block.Basic b) c (inl (inl t)))
ports_once lib plan (block.Composite b) once c t = once (block_twice lib plan (block.Composite b) c (inl (inl t)))

declared_once : (lib : Library) (plan : Plan) (t : BlockType) → ¬ (NameTwice lib plan) → Contains lib.blocks t → AreOnce (ports_of (kind_of t))
declared_once lib plan t once c =
    let p = ports_of (kind_of t) in
    let events = event_names p.event_inputs ++ event_names p.event_outputs in
    let ins = variable_names p.inputs in
    let outs = variable_names p.outputs in
    record {
      once = λ h.
          ports_once lib plan t once c
          (Twice-append_left ((events ++ ins) ++ outs) (variable_names (internals_of (kind_of t)))
          (subst (λ (ns : List Name). Twice ns) (sym (append_assoc events ins outs)) (Twice-append_right events (ins ++ outs) h)));
    }

-- A type of the declaration.
record IsBlock (lib : Library) (k : Kind) : Type 0 where
  pub type : BlockType
  pub is : kind_of type ≡ k
  pub there : Contains lib.blocks type

-- a name represents an event block or for a type of the declaration
kind_cases : (lib : Library) (n : Name) (k : Kind) → type_named lib n ≡ Some k → ((e : EventKind) × (Event e ≡ k)) ⊎ IsBlock lib k
kind_cases lib n k h =
    elim (named (λ (e : Name × EventKind). e.0) n event_blocks) as
    (λ o. elim o as (λ _. Option Kind) [ Some e ↦ Some (Event e.1) | None ↦ option_map kind_of (named type_name n lib.blocks) ] ≡ Some k
    → ((e : EventKind) × (Event e ≡ k)) ⊎ IsBlock lib k) [
      | Some e ↦ λ h. inl (e.1, same_Some (Event e.1) k h)
      | None ↦ λ h.
          (elim (named type_name n lib.blocks) as
          (λ o. named type_name n lib.blocks ≡ o → option_map kind_of o ≡ Some k → ((e : EventKind) × (Event e ≡ k)) ⊎ IsBlock lib k) [
            | None ↦ λ _ h. absurd (cc)
            | Some t ↦ λ e h. inr (record { type = t; is = same_Some (kind_of t) k h; there = named-Contains type_name n lib.blocks t e })
          ] refl h)
    ] h

-- the variables of an instance's type have different names
pub variables_once : (lib : Library) (plan : Plan) (n : Name) (k : Kind) → ¬ (NameTwice lib plan) → type_named lib n ≡ Some k → AreOnce (ports_of k)
variables_once lib plan n k once h =
    elim (kind_cases lib n k h) [
      | inl e ↦
          subst (λ (k : Kind). AreOnce (ports_of k)) e.1 (record { once = event_variables_once e.0 })
      | inr b ↦ subst (λ (k : Kind). AreOnce (ports_of k)) b.is (declared_once lib plan b.type once b.there)
    ]

pub inputs_once : (lib : Library) (plan : Plan) (n : Name) (k : Kind) → ¬ (NameTwice lib plan) → type_named lib n ≡ Some k → ¬ (Twice (variable_names (ports_of k).inputs))
inputs_once lib plan n k once h t =
    (variables_once lib plan n k once h).once (Twice-append_left (variable_names (ports_of k).inputs) (variable_names (ports_of k).outputs) t)

-- ---- The network that contains an instance

-- A network of the declaration.
record IsMember (lib : Library) (net : Network) : Type 0 where
  pub placed : OwnedNetwork
  pub there : Contains (networks lib) placed
  pub is : placed.1 ≡ net
  pub twice : (plan : Plan) → NetworkTwice net → NameTwice lib plan

composite_member : (lib : Library) (net : Network) (t : BlockType) → Contains lib.blocks t → network_of (kind_of t) ≡ Some net → IsMember lib net
composite_member lib net (block.Basic b) c h = absurd (cc)
composite_member lib net (block.Composite b) c h =
    let placed : OwnedNetwork = (Some b, b.network) in
    record {
      placed = placed;
      there = Contains-there (None, lib.application.network) (flat_map networks_in lib.blocks) placed
          (Contains-flat_map networks_in lib.blocks (block.Composite b) placed c (Contains-here placed []));
      is = same_Some b.network net h;
      twice = λ plan t. block_twice lib plan (block.Composite b) c (inr (subst (λ (net : Network). NetworkTwice net) (sym (same_Some b.network net h)) t));
    }

inside_member : (lib : Library) (i : Instance) (net : Network) → inside lib i ≡ Some net → IsMember lib net
inside_member lib i net h =
    elim (kind_of_instance lib i) as (λ o. kind_of_instance lib i ≡ o → option_and_then network_of o ≡ Some net → IsMember lib net) [
      | None ↦ λ _ h. absurd (cc)
      | Some k ↦ λ e h.
          (elim (kind_cases lib i.block_type k e) [
            | inl f ↦ absurd (let none : None ≡ Some net = ap network_of f.1 ∙ h in cc)
            | inr b ↦ composite_member lib net b.type b.there (ap network_of b.is ∙ h)
          ])
    ] refl h

network_member : (lib : Library) (p : Path) (net : Network) → network_at lib p ≡ Some net → IsMember lib net
network_member lib [] net h =
    let placed : OwnedNetwork = (None, lib.application.network) in
    let same : lib.application.network ≡ net = same_Some lib.application.network net h in
    record {
      placed = placed;
      there = Contains-here placed (flat_map networks_in lib.blocks);
      is = same;
      twice = λ plan t. network_twice lib plan (subst (λ (net : Network). NetworkTwice net) (sym same) t);
    }
network_member lib (n ∷ p) net h =
    elim (option_and_then (λ net. instance_in net n) (network_at lib p)) as (λ o. option_and_then (inside lib) o ≡ Some net → IsMember lib net) [
      | None ↦ λ h. absurd (cc)
      | Some i ↦ λ h. inside_member lib i net h
    ] h

-- An instance of a network of the declaration.
record IsPlaced (lib : Library) (i : Instance) : Type 0 where
  pub network : Network
  pub member : IsMember lib network
  pub there : Contains network.instances i

instance_placed : (lib : Library) (p : Path) (i : Instance) → instance_at lib p ≡ Some i → IsPlaced lib i
instance_placed lib [] i h = absurd (cc)
instance_placed lib (n ∷ p) i h =
    elim (network_at lib p) as (λ o. network_at lib p ≡ o → option_and_then (λ net. instance_in net n) o ≡ Some i → IsPlaced lib i) [
      | None ↦ λ _ h. absurd (cc)
      | Some net ↦ λ e h. record {
        network = net;
        member = network_member lib p net e;
        there = named-Contains (λ (i : Instance). i.name) n net.instances i h;
      }
    ] refl h

-- ---- Parameters

-- the numbers of an instance's parameters are the indexes that `input_values` takes
pub parameters_placed :
    (lib : Library) (i : Instance) (k : Kind) (ks : List ℕ) → kind_of_instance lib i ≡ Some k → parameter_numbers lib i ≡ Some ks
    → each_or_none (λ x. index_of (data_ins (ports_of k)) x.name) i.parameters ≡ Some ks
parameters_placed lib i k ks of h =
    sym (ap (λ (o : Option Kind). elim o as (λ _. Option (List ℕ)) [ None ↦ None | Some k ↦ each_or_none (λ x. index_of (data_ins (ports_of k)) x.name) i.parameters ]) of) ∙ h

-- no parameter is given twice
pub parameters_once : (lib : Library) (plan : Plan) (p : Path) (i : Instance) → ¬ (NameTwice lib plan) → instance_at lib p ≡ Some i → ¬ (Twice (parameter_names i.parameters))
parameters_once lib plan p i once h t =
    let at = instance_placed lib p i h in
    let names = λ (i : Instance). parameter_names i.parameters in
    let listed : Contains (parameter_lists at.network) (names i) = Contains-map names at.network.instances i at.there in
    once (at.member.twice plan (inr (inl (names i, listed, t))))

-- a parameter names no variable that is not an input
pub parameter_unknown :
    (lib : Library) (plan : Plan) (p : Path) (i : Instance) (k : Kind) (n : Name) → ¬ (NameUnknown lib plan) → instance_at lib p ≡ Some i
    → kind_of_instance lib i ≡ Some k → ¬ (Contains (variable_names (ports_of k).inputs) n) → ¬ (Contains (parameter_names i.parameters) n)
parameter_unknown lib plan p i k n known h of other c =
    let at = instance_placed lib p i h in
    let ins = variable_names (ports_of k).inputs in
    let w : Required = (n, ins) in
    let here : Contains (all_of (parameter_names i.parameters) ins) w = Contains-map (λ (n : Name). (n, ins)) (parameter_names i.parameters) n c in
    let required : Contains (required_parameters lib i) w =
    subst (λ (o : Option Kind). Contains (elim o as (λ _. List Required) [ None ↦ [] | Some k ↦ all_of (parameter_names i.parameters) (variable_names (ports_of k).inputs) ]) w)
    (sym of) here in
    let inside_net = Contains-flat_map (required_parameters lib) at.network.instances i w at.there required in
    let all : Contains (flat_map (required_parameters lib) at.member.placed.1.instances) w =
    subst (λ (net : Network). Contains (flat_map (required_parameters lib) net.instances) w) (sym at.member.is) inside_net in
    known (of_network lib plan at.member.placed at.member.there
    (inl (w, Contains-append_right (required_types lib at.member.placed.1) (flat_map (required_parameters lib) at.member.placed.1.instances) w all, other)))
