-- Names of a network are known if they have numbers (E21).
use Rattle.fb_types.proofs.Common.{◌≡◌, ◌&&◌, ◌||◌, ℕ, Bool, true, false, List, [], map, Some, None, Option, Contains, refl, sym, ◌∙◌, ap, is_some, slice_get, option_map, option_and_then, list_any, list_all, true≢false, false_from_ne_true, list_any-append, Name, same_name, Kind, event_blocks, named, among, variable_names, ports_of, type_name, kind_of_instance, instance_in, OwnedNetwork, block_type_names, instance_names, Required, all_of, required_parameters, is_end, data_ins}
use Rattle.fb_types.specs.declared.library.CompositeType.{CompositeType}
use Rattle.fb_types.specs.declared.library.Connection.{Connection}
use Rattle.fb_types.specs.declared.library.Instance.{Instance}
use Rattle.fb_types.specs.declared.library.Library.{Library}
use Rattle.fb_types.specs.declared.library.Parameter.{Parameter}
use Rattle.fb_types.specs.declared.library.PortName.{PortName}
use Rattle.fb_types.specs.declared.library.Ports.{Ports}
use Rattle.fb_types.proofs.lemmas.lists.Positions.{named-position, is_some-position}
use Rattle.fb_types.proofs.lemmas.names.NameLaws.{contains_from_any, any-named}
use Rattle.fb_check_names.specs.Numbers.{each_or_none, index_of, type_number, end_at, end_number, both_ends, parameter_numbers, ports_at_index}
use Rattle.fb_check_names.specs.declared.numbers.ConnectionEnd.{ConnectionEnd}
use Rattle.fb_check_names.specs.declared.numbers.TypeNumber.{TypeNumber}
use Rattle.fb_check_names.specs.declared.numbers.TypeNumber.TheVariants as number
use Rattle.fb_types.proofs.lemmas.lists.Options.{is_some-option_map}
use Rattle.fb_types.proofs.lemmas.lists.ListTests.{fails_from, list_all-map, list_all-agree}
use Rattle.fb_check_names.proofs.lemmas.Each.{is_some-each}
use Rattle.fb_check_names.proofs.lemmas.numbers.Lookups.{kind_known, kind_of_numbered, type_named-number}

-- ---- Required names

-- whether a name is among the required ones
abbrev pub met : Required → Bool
met w = list_any (same_name w.0) w.1

pub list_all-all_of : (ns port_kind : List Name) → list_all met (all_of ns port_kind) ≡ list_all (λ n. list_any (same_name n) port_kind) ns
list_all-all_of ns port_kind = list_all-map met (λ n. (n, port_kind)) ns

pub met_required : (ws : List Required) → list_all met ws ≡ true → (w : Required) → Contains ws w → ¬ ¬ (Contains w.1 w.0)
met_required ws h w c out =
    true≢false (sym h ∙ fails_from met ws w c (false_from_ne_true (met w) (λ t. out (contains_from_any w.0 w.1 t))))

-- ---- Types

-- a type is known if it has a number
pub type_met : (lib : Library) (n : Name) → list_any (same_name n) (block_type_names lib) ≡ is_some (type_number lib n)
type_met lib n =
    list_any-append (same_name n) (map (λ e. e.0) event_blocks) (map type_name lib.blocks)
    ∙ (λ i. any-named (λ e. e.0) n event_blocks i || sym (is_some-position (same_name n) (map type_name lib.blocks)) i)
    ∙ (elim (named (λ e. e.0) n event_blocks) as
    (λ o. (is_some o || is_some (index_of (map type_name lib.blocks) n))
    ≡ is_some (elim (option_map (λ e. e.1) o) as (λ _. Option TypeNumber) [ Some k ↦ Some (number.Event k) | None ↦ option_map (λ t. number.Declared t) (index_of (map type_name lib.blocks) n) ])) [
      | Some e ↦ refl
      | None ↦ is_some-option_map (λ t. number.Declared t) (index_of (map type_name lib.blocks) n)
    ])

abbrev pub is_typed : Library → Instance → Bool
is_typed lib i = is_some (type_number lib i.block_type)

-- ---- Parameters

abbrev required_of : Instance → Option Kind → List Required
required_of i o = elim o [ None ↦ [] | Some k ↦ all_of (map (λ x. x.name) i.parameters) (variable_names (ports_of k).inputs) ]

abbrev numbers_of : Instance → Option Kind → Option (List ℕ)
numbers_of i o = elim o [ None ↦ None | Some k ↦ each_or_none (λ x. index_of (data_ins (ports_of k)) x.name) i.parameters ]

known_met : (i : Instance) (k : Kind) → list_all met (required_of i (Some k)) ≡ is_some (numbers_of i (Some k))
known_met i k =
    let port_kind = data_ins (ports_of k) in
    list_all-all_of (map (λ x. x.name) i.parameters) port_kind
    ∙ list_all-map (λ n. list_any (same_name n) port_kind) (λ x. x.name) i.parameters
    ∙ list_all-agree (λ (x : Parameter). list_any (same_name x.name) port_kind) (λ x. is_some (index_of port_kind x.name))
    (λ x. sym (is_some-position (same_name x.name) port_kind)) i.parameters
    ∙ sym (is_some-each (λ (x : Parameter). index_of port_kind x.name) i.parameters)

-- an instance's type and parameters are known if they have numbers
pub instance_met : (lib : Library) (i : Instance) → (is_typed lib i && list_all met (required_parameters lib i)) ≡ is_some (parameter_numbers lib i)
instance_met lib i =
    elim (type_number lib i.block_type) as
    (λ o. type_number lib i.block_type ≡ o → (is_some o && list_all met (required_parameters lib i)) ≡ is_some (parameter_numbers lib i)) [
      | None ↦ λ e.
          let none : kind_of_instance lib i ≡ None = type_named-number lib i.block_type ∙ ap (option_and_then _) e in
          ap (λ o. is_some (numbers_of i o)) (sym none)
      | Some t ↦ λ e.
          let k = kind_known lib i.block_type t e in
          let some : kind_of_instance lib i ≡ Some k.0 = kind_of_numbered lib i t e ∙ k.1 in
          ap (λ o. list_all met (required_of i o)) some ∙ known_met i k.0 ∙ ap (λ o. is_some (numbers_of i o)) (sym some)
    ] refl

-- ---- Ends of connections

at_kind :
    (component : Ports → List Name) (e : PortName) (i : ℕ) (o : Option Kind)
    → (elim o as (λ _. Bool) [ None ↦ false | Some k ↦ among (component (ports_of k)) e.port ])
    ≡ is_some (option_and_then (λ p. end_at (Some i) (component p) e) (option_map ports_of o))
at_kind component e i None = refl
at_kind component e i (Some k) =
    sym (is_some-position (same_name e.port) (component (ports_of k)))
    ∙ is_some-option_map (λ (f : ℕ). let r : ConnectionEnd = record { component = Some i; port = f } in r) (index_of (component (ports_of k)) e.port)

abbrev found : Library → (Ports → List Name) → PortName → Option Instance → Bool
found lib component e o = elim (option_and_then (kind_of_instance lib) o) [ None ↦ false | Some k ↦ among (component (ports_of k)) e.port ]

component_known :
    (lib : Library) (n : OwnedNetwork) (component : Ports → List Name) (c : Name) (e : PortName)
    → found lib component e (instance_in n.1 c)
    ≡ is_some (option_and_then (λ i. option_and_then (λ p. end_at (Some i) (component p) e) (ports_at_index lib n i)) (index_of (instance_names n.1) c))
component_known lib n component c e =
    ap (found lib component e) (named-position (λ (i : Instance). i.name) c n.1.instances)
    ∙ (elim (index_of (instance_names n.1) c) as
    (λ o. found lib component e (option_and_then (slice_get n.1.instances) o)
    ≡ is_some (option_and_then (λ i. option_and_then (λ p. end_at (Some i) (component p) e) (ports_at_index lib n i)) o)) [
      | None ↦ refl
      | Some i ↦ at_kind component e i (option_and_then (kind_of_instance lib) (slice_get n.1.instances i))
    ])

boundary_known :
    (boundary : Ports → List Name) (e : PortName) (o : Option CompositeType)
    → (elim o as (λ _. Bool) [ None ↦ false | Some t ↦ among (boundary t.ports) e.port ]) ≡ is_some (option_and_then (λ t. end_at None (boundary t.ports) e) o)
boundary_known boundary e None = refl
boundary_known boundary e (Some t) =
    sym (is_some-position (same_name e.port) (boundary t.ports))
    ∙ is_some-option_map (λ (f : ℕ). let r : ConnectionEnd = record { component = None; port = f } in r) (index_of (boundary t.ports) e.port)

-- an end represents a port if it has a number
pub end_known :
    (lib : Library) (n : OwnedNetwork) (component boundary : Ports → List Name) (e : PortName)
    → is_end lib n component boundary e ≡ is_some (end_number lib n component boundary e)
end_known lib n component boundary e =
    elim e.component as
    (λ o. (elim o as (λ _. Bool) [
      | None ↦ elim n.0 [ None ↦ false | Some t ↦ among (boundary t.ports) e.port ]
      | Some c ↦ found lib component e (instance_in n.1 c)
    ])
    ≡ is_some (elim o as (λ _. Option ConnectionEnd) [
      | None ↦ option_and_then (λ t. end_at None (boundary t.ports) e) n.0
      | Some c ↦ option_and_then (λ i. option_and_then (λ p. end_at (Some i) (component p) e) (ports_at_index lib n i)) (index_of (instance_names n.1) c)
    ])) [
      | None ↦ boundary_known boundary e n.0
      | Some c ↦ component_known lib n component c e
    ]

both_known : (a b : Option ConnectionEnd) → (is_some a && is_some b) ≡ is_some (both_ends a b)
both_known None b = refl
both_known (Some x) None = refl
both_known (Some x) (Some y) = refl

-- the same for both ends of a connection
pub wire_known :
    (lib : Library) (n : OwnedNetwork) (outs ins : Ports → List Name) (c : Connection)
    → (is_end lib n outs ins c.from && is_end lib n ins outs c.to) ≡ is_some (both_ends (end_number lib n outs ins c.from) (end_number lib n ins outs c.to))
wire_known lib n outs ins c =
    (λ i. end_known lib n outs ins c.from i && end_known lib n ins outs c.to i)
    ∙ both_known (end_number lib n outs ins c.from) (end_number lib n ins outs c.to)
