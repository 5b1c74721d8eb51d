-- Networks in which a name is unknown, and networks in which each is known.
use Rattle.fb_check.proofs.lemmas.Common.{◌≡◌, ◌&&◌, ◌||◌, ℕ, true, false, List, [], ◌∷◌, ◌++◌, map, Some, None, Option, Contains, refl, sym, ◌∙◌, ap, inl, inr, flat_map, slice_get, option_map, option_and_then, list_all, list_any, true≢false, same_Some, append-nil, Name, same_name, Kind, among, ports_of, kind_of_instance, OwnedNetwork, block_type_names, Required, required_parameters, data_ins, Connection, Instance, Library, Parameter, Ports, is_met, FlowKind, Events, Data, Side, Site, UnknownName, each_at, unless, network_at, connections_of, unknown_in_instance, unknown_parameters, Unmet, is_type_met, is_side_known}
use Rattle.fb_types.proofs.Common.{Contains-append_cases, all_of, required_types}
use Rattle.fb_types.proofs.lemmas.names.NameLaws.{any_from_contains}
use Rattle.fb_types.proofs.lemmas.lists.ListTests.{list_all-map, list_all-flat_map}
use Rattle.fb_check_names.specs.Unknown.{NetworkUnknown}
use Rattle.fb_check_names.proofs.lemmas.unknown.NetworkUnknown.{met, met_required, list_all-all_of}
use Rattle.fb_check_names.specs.declared.location.UnknownName.TheVariants as location
use Rattle.fb_check_names.specs.Sites.{instance_at}
use Rattle.fb_check_names.proofs.lemmas.Listing.{each_from-map}
use Rattle.fb_check.specs.types.Unknown.{UnmetParameter, IsUnknownEnd, type_required, parameter_required, are_parameters_met, are_ends_known}

-- ---- Names that are required

pub unmet_is : (w : Required) → is_met w ≡ false → ¬ (Contains w.1 w.0)
unmet_is w h c = true≢false (sym (any_from_contains w.0 w.1 c) ∙ h)

-- what two tests of a list of names find
pub any_map : {A : Type 0} (f : A → Name) (n : Name) (xs : List A) → list_any (λ x. same_name n (f x)) xs ≡ among (map f xs) n
any_map f n [] = refl
any_map f n (x ∷ xs) = ap (λ b. same_name n (f x) || b) (any_map f n xs)

-- ---- Parameters

abbrev pub set_names : List Parameter → List Name
set_names xs = map (λ x. x.name) xs

parameters_are : (lib : Library) (i : Instance) (k : Kind) → kind_of_instance lib i ≡ Some k → required_parameters lib i ≡ all_of (set_names i.parameters) (data_ins (ports_of k))
parameters_are lib i k e =
    ap (λ (o : Option Kind). elim o as (λ _. List Required) [ None ↦ [] | Some k ↦ all_of (set_names i.parameters) (data_ins (ports_of k)) ]) e

-- the data inputs that are required of an instance, if the ports of its type are known
required_of :
    (lib : Library) (i : Instance) (p : Ports) → Some p ≡ option_map ports_of (kind_of_instance lib i)
    → required_parameters lib i ≡ all_of (set_names i.parameters) (data_ins p)
required_of lib i p h =
    elim (kind_of_instance lib i) as
    (λ o. kind_of_instance lib i ≡ o → Some p ≡ option_map ports_of o → required_parameters lib i ≡ all_of (set_names i.parameters) (data_ins p)) [
      | None ↦ λ e h. absurd (cc)
      | Some k ↦ λ e h. parameters_are lib i k e ∙ ap (λ (q : Ports). all_of (set_names i.parameters) (data_ins q)) (sym (same_Some p (ports_of k) h))
    ] refl h

-- the parameters that are unknown, by the ports of the type
pub parameters_of :
    (lib : Library) (s : Site) (k : ℕ) (i : Instance) (p : Ports) (xs : List Parameter) → Some p ≡ option_map ports_of (kind_of_instance lib i) → xs ≡ i.parameters
    → unknown_parameters lib s k i ≡ each_at (λ j x. unless (among (data_ins p) x.name) (location.Parameter s k j)) xs
parameters_of lib s k i p xs of_type all =
    let ins : List Name = data_ins p in
    let required : required_parameters lib i ≡ map (λ (n : Name). (n, ins)) (map (λ (x : Parameter). x.name) xs) =
    required_of lib i p of_type ∙ ap (λ (xs : List Parameter). all_of (set_names xs) ins) (sym all) in
    ap (each_at (λ j w. unless (is_met w) (location.Parameter s k j))) required
    ∙ each_from-map (λ j w. unless (is_met w) (location.Parameter s k j)) (λ (n : Name). (n, ins)) (set_names xs) 0
    ∙ each_from-map (λ j n. unless (among ins n) (location.Parameter s k j)) (λ (x : Parameter). x.name) xs 0

-- those of a type that is unknown
pub no_parameters :
    (lib : Library) (s : Site) (k : ℕ) (i : Instance) (old : List UnknownName) → None ≡ option_map ports_of (kind_of_instance lib i)
    → old ++ unless (is_type_met lib i) (location.InstanceType s k) ≡ old ++ unknown_in_instance lib s k i
no_parameters lib s k i old of_type =
    let type = unless (is_type_met lib i) (location.InstanceType s k) in
    let none : kind_of_instance lib i ≡ None =
    elim (kind_of_instance lib i) as (λ (o : Option Kind). None ≡ option_map ports_of o → o ≡ None) [ None ↦ λ e. refl | Some x ↦ λ e. absurd (cc) ] of_type in
    let nothing : required_parameters lib i ≡ [] =
    ap (λ (o : Option Kind). elim o as (λ _. List Required) [ None ↦ [] | Some k ↦ all_of (set_names i.parameters) (data_ins (ports_of k)) ]) none in
    ap (λ (ys : List UnknownName). old ++ ys) (sym (append-nil type) ∙ ap (λ (ws : List Required). type ++ each_at (λ j w. unless (is_met w) (location.Parameter s k j)) ws) (sym nothing))

-- ---- Locations in a network

instance_is : (lib : Library) (s : Site) (n : OwnedNetwork) (k : ℕ) (i : Instance) → network_at lib s ≡ Some n → slice_get n.1.instances k ≡ Some i → instance_at lib s k ≡ Some i
instance_is lib s n k i at found = ap (option_and_then (λ (n : OwnedNetwork). slice_get n.1.instances k)) at ∙ found

pub type_location :
    (lib : Library) (s : Site) (n : OwnedNetwork) (k : ℕ) (i : Instance) → network_at lib s ≡ Some n → slice_get n.1.instances k ≡ Some i → is_type_met lib i ≡ false
    → Unmet (option_map (type_required lib) (instance_at lib s k))
type_location lib s n k i at found h =
    (type_required lib i, ap (option_map (type_required lib)) (instance_is lib s n k i at found), unmet_is (type_required lib i) h)

pub parameter_location :
    (lib : Library) (s : Site) (n : OwnedNetwork) (k p : ℕ) (i : Instance) → network_at lib s ≡ Some n → slice_get n.1.instances k ≡ Some i → UnmetParameter lib i p
    → Unmet (option_and_then (λ x. parameter_required lib x p) (instance_at lib s k))
parameter_location lib s n k p i at found h =
    (h.0, ap (option_and_then (λ (x : Instance). parameter_required lib x p)) (instance_is lib s n k i at found) ∙ h.1, h.2)

pub end_location :
    (lib : Library) (s : Site) (n : OwnedNetwork) (f : FlowKind) (k : ℕ) (side : Side) (c : Connection) → network_at lib s ≡ Some n
    → slice_get (connections_of f n.1) k ≡ Some c → is_side_known lib n f side c ≡ false → IsUnknownEnd lib s f k side
end_location lib s n f k side c at found h = record { network = n; at_index = c; at = at; found = found; unknown = h }

-- ---- Networks in which all is known

types_met : (lib : Library) (n : OwnedNetwork) → list_all (is_type_met lib) n.1.instances ≡ true → list_all met (required_types lib n.1) ≡ true
types_met lib n h =
    list_all-all_of (map (λ i. i.block_type) n.1.instances) (block_type_names lib)
    ∙ list_all-map (λ m. list_any (same_name m) (block_type_names lib)) (λ i. i.block_type) n.1.instances ∙ h

pub network_known :
    (lib : Library) (n : OwnedNetwork) → list_all (is_type_met lib) n.1.instances ≡ true → list_all (are_parameters_met lib) n.1.instances ≡ true
    → list_all (are_ends_known lib n Events) n.1.event_connections ≡ true → list_all (are_ends_known lib n Data) n.1.data_connections ≡ true
    → ¬ (NetworkUnknown lib n)
network_known lib n types parameters events values unknown =
    elim unknown [
      | inl w ↦ elim (Contains-append_cases (required_types lib n.1) (flat_map (required_parameters lib) n.1.instances) w.0 w.1) [
        | inl t ↦ met_required (required_types lib n.1) (types_met lib n types) w.0 t w.2
        | inr p ↦ met_required (flat_map (required_parameters lib) n.1.instances) (list_all-flat_map met (required_parameters lib) n.1.instances ∙ parameters) w.0 p w.2
      ]
      | inr f ↦ true≢false (sym (λ i. events i && values i) ∙ f)
    ]
