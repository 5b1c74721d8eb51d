-- E22 by number: parameters that are not values of their inputs' types.
use Rattle.fb_check.proofs.lemmas.Common.{◌≡◌, ℕ, ◌+◌, Bool, true, false, not, List, [], ◌∷◌, Option, Some, None, refl, sym, ◌∙◌, ap, slice_get, option_map, option_and_then, fits, Kind, named, ports_of, kind_of_instance, OwnedNetwork, data_ins, Library, Instance, Parameter, Variable, TypeNumber, NetworkNumbers, IsNetwork, each_or_none, index_of, type_number, kind_of_number, each_at, each_from, unless, KindWrongAt, Site, kind_wrong_parameters}
use Rattle.fb_types.proofs.Common.{type_at}
use Rattle.fb_types.specs.Kinds.{parameter_right}
use Rattle.fb_types.proofs.lemmas.lists.Positions.{named-position}
use Rattle.fb_check_names.specs.Numbers.{parameter_numbers}
use Rattle.fb_check_names.proofs.lemmas.Each as each
use Rattle.fb_check_names.specs.declared.location.KindWrongAt.TheVariants as kind_wrong
use Rattle.fb_check.specs.networks.Parameters.{is_wrong}
use Rattle.fb_check.proofs.lemmas.networks.Naming.{type_by_number}

-- one parameter
parameter_by_number :
    (lib : Library) (t : TypeNumber) (k : Kind) (x : Parameter) (p : ℕ) → kind_of_number lib t ≡ Some k
    → index_of (data_ins (ports_of k)) x.name ≡ Some p → is_wrong lib t x p ≡ not (parameter_right (ports_of k) x)
parameter_by_number lib t k x p kind at =
    let inputs : List Variable = (ports_of k).inputs in
    let is_named : named (λ v. v.name) x.name inputs ≡ slice_get inputs p =
    named-position (λ (v : Variable). v.name) x.name inputs ∙ ap (option_and_then (slice_get inputs)) at in
    ap (λ (o : Option Kind). elim (option_and_then (λ k. type_at (ports_of k).inputs p) o) as (λ _. Bool) [ None ↦ false | Some s ↦ not (fits s x.value) ]) kind
    ∙ (elim (slice_get inputs p) as
    (λ o. elim (option_map (λ (v : Variable). v.ty) o) as (λ _. Bool) [ None ↦ false | Some s ↦ not (fits s x.value) ]
    ≡ not (elim o as (λ _. Bool) [ None ↦ true | Some v ↦ fits v.ty x.value ])) [
      | None ↦ refl
      | Some v ↦ refl
    ])
    ∙ ap (λ (o : Option Variable). not (elim o as (λ _. Bool) [ None ↦ true | Some v ↦ fits v.ty x.value ])) (sym is_named)

-- ---- The parameters of an instance

-- the type of an instance, with the inputs of its parameters
record IsKinded (lib : Library) (i : Instance) (ps : List ℕ) : Type 0 where
  kind : Kind
  kind_is : kind_of_instance lib i ≡ Some kind
  inputs : each_or_none (λ x. index_of (data_ins (ports_of kind)) x.name) i.parameters ≡ Some ps

kinded : (lib : Library) (i : Instance) (ps : List ℕ) → parameter_numbers lib i ≡ Some ps → IsKinded lib i ps
kinded lib i ps h =
    elim (kind_of_instance lib i) as
    (λ (o : Option Kind). kind_of_instance lib i ≡ o
    → elim o as (λ _. Option (List ℕ)) [ None ↦ None | Some k ↦ each_or_none (λ x. index_of (data_ins (ports_of k)) x.name) i.parameters ] ≡ Some ps → IsKinded lib i ps) [
      | None ↦ λ e g. absurd (cc)
      | Some k ↦ λ e g. record { kind = k; kind_is = e; inputs = g }
    ] refl h

-- one of them, by the type of the instance, if it has one
abbrev kind_wrong_of : Site → ℕ → ℕ → Parameter → Option Kind → List KindWrongAt
kind_wrong_of s i p v None = []
kind_wrong_of s i p v (Some k) = unless (parameter_right (ports_of k) v) (kind_wrong.Parameter s i p)

abbrev pub kind_wrong_parameter : Library → Site → ℕ → Instance → ℕ → Parameter → List KindWrongAt
kind_wrong_parameter lib s i x p v = kind_wrong_of s i p v (kind_of_instance lib x)

each_nothing : {A : Type 0} (B : Type 0) (k : ℕ) (xs : List A) → each_from {A = A} {B = B} (λ p v. []) k xs ≡ []
each_nothing B k [] = refl
each_nothing B k (x ∷ xs) = each_nothing B (k + 1) xs

pub parameters_are : (lib : Library) (s : Site) (i : ℕ) (x : Instance) → each_at (kind_wrong_parameter lib s i x) x.parameters ≡ kind_wrong_parameters lib s i x
parameters_are lib s i x =
    elim (kind_of_instance lib x) as
    (λ (o : Option Kind). each_at (λ p v. kind_wrong_of s i p v o) x.parameters
    ≡ elim o as (λ _. List KindWrongAt) [ None ↦ [] | Some k ↦ each_at (λ p v. unless (parameter_right (ports_of k) v) (kind_wrong.Parameter s i p)) x.parameters ]) [
      | None ↦ each_nothing KindWrongAt 0 x.parameters
      | Some k ↦ refl
    ]

pub not_not : (b : Bool) → not (not b) ≡ b
not_not true = refl
not_not false = refl

pub parameter_is :
    (lib : Library) (s : Site) (i p : ℕ) (x : Instance) (t : TypeNumber) (ps : List ℕ) (v : Parameter) (k : ℕ) (right : Bool) → type_number lib x.block_type ≡ Some t
    → parameter_numbers lib x ≡ Some ps → slice_get x.parameters p ≡ Some v → slice_get ps p ≡ Some k → right ≡ not (is_wrong lib t v k)
    → unless right (kind_wrong.Parameter s i p) ≡ kind_wrong_parameter lib s i x p v
parameter_is lib s i p x t ps v k right ty numbers at input is =
    let its = kinded lib x ps numbers in
    let there = each.each_at (λ (y : Parameter). index_of (data_ins (ports_of its.kind)) y.name) x.parameters ps p v its.inputs at in
    let same : Some there.0 ≡ Some k = sym there.1 ∙ input in
    let wrong = parameter_by_number lib t its.kind v k (sym (type_by_number lib x.block_type t ty) ∙ its.kind_is) (there.2 ∙ same) in
    let right_is : right ≡ parameter_right (ports_of its.kind) v = is ∙ ap not wrong ∙ not_not (parameter_right (ports_of its.kind) v) in
    ap (λ (b : Bool). unless b (kind_wrong.Parameter s i p)) right_is ∙ ap (kind_wrong_of s i p v) (sym its.kind_is)

-- each parameter has an input
pub has_input :
    (lib : Library) (x : Instance) (ps : List ℕ) (p : ℕ) (v : Parameter) → parameter_numbers lib x ≡ Some ps → slice_get x.parameters p ≡ Some v → slice_get ps p ≡ None → ⊥
has_input lib x ps p v numbers at none =
    let its = kinded lib x ps numbers in
    let there = each.each_at (λ (y : Parameter). index_of (data_ins (ports_of its.kind)) y.name) x.parameters ps p v its.inputs at in
    let no : Some there.0 ≡ None = sym there.1 ∙ none in
    cc

-- ---- The instances of a network

pub type_at_index :
    (lib : Library) (n : OwnedNetwork) (xs : NetworkNumbers) (k : ℕ) (i : Instance) → IsNetwork lib n xs → slice_get n.1.instances k ≡ Some i
    → (t : TypeNumber) × (slice_get xs.types k ≡ Some t) × (type_number lib i.block_type ≡ Some t)
type_at_index lib n xs k i is at = each.each_at (λ (i : Instance). type_number lib i.block_type) n.1.instances xs.types k i is.types at

pub inputs_at_index :
    (lib : Library) (n : OwnedNetwork) (xs : NetworkNumbers) (k : ℕ) (i : Instance) → IsNetwork lib n xs → slice_get n.1.instances k ≡ Some i
    → (ps : List ℕ) × (slice_get xs.parameters k ≡ Some ps) × (parameter_numbers lib i ≡ Some ps)
inputs_at_index lib n xs k i is at = each.each_at (parameter_numbers lib) n.1.instances xs.parameters k i is.parameters at
