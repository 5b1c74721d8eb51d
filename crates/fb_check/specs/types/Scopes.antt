-- Networks by number, with the indexes of their names (IEC 61499-1, 5.3).
use Rattle.std.specs.Prelude.{◌≡◌, ℕ, List, [], length, Option, Some, None, option_map, option_and_then}
use Rattle.std.specs.Option.{ForSome}
use Rattle.fb_types.specs.Names.{Name}
use Rattle.fb_types.specs.Repeated.{OwnedNetwork, instance_names}
use Rattle.fb_types.specs.Unknown.{data_ins}
use Rattle.fb_types.specs.declared.library.Library.{Library}
use Rattle.fb_types.specs.declared.library.Connection.{Connection}
use Rattle.fb_types.specs.declared.library.Instance.{Instance}
use Rattle.fb_types.specs.declared.library.PortName.{PortName}
use Rattle.fb_types.specs.declared.library.Ports.{Ports}
use Rattle.fb_check_names.specs.Indexes.{IsIndex}
use Rattle.fb_check_names.specs.Numbers.{both_ends, end_at, end_number, index_of, ports_at_index, type_number}
use Rattle.fb_check_names.specs.PortKinds.{AreIndexesOf}
use Rattle.fb_check_names.specs.Types.{port_number}
use Rattle.fb_check_names.specs.declared.numbers.ConnectionEnd.{ConnectionEnd}
use Rattle.fb_check_names.specs.declared.numbers.TypeNumber.{TypeNumber}
use Rattle.fb_check_names.specs.declared.numbers.TypeNumber.TheVariants as number
use Rattle.fb_check_names.specs.declared.numbers.NumberedConnection.{NumberedConnection}
use Rattle.fb_check.specs.types.Present.{each_some}
use Rattle.fb_check.specs.types.Unknown.{inputs_of, outputs_of}
use Rattle.fb_check.specs.declared.types.ends.NetworkScope.{NetworkScope}
use Rattle.fb_check_names.specs.declared.location.FlowKind.{FlowKind}
use Rattle.fb_check_names.specs.declared.location.Side.{Side}
use Rattle.fb_check_names.specs.declared.location.Side.TheVariants.{From, To}

-- the network, with the composite type that it is inside of
abbrev pub placed : NetworkScope → OwnedNetwork
placed s = (option_map (λ c. c.0.now) s.composite, s.network.now)

pub record IsScope (s : NetworkScope) : Type 0 where
  pub boundary : ForSome s.composite (λ c. AreIndexesOf c.0.now.ports c.1.now)
  pub instances : IsIndex (instance_names s.network.now) s.instances.now

-- ---- Numbers of what has a name, or stands for it

-- a number that no type has
abbrev pub number_past : Library → TypeNumber
number_past lib = number.Declared (length lib.blocks)

abbrev pub number_or : TypeNumber → Option TypeNumber → TypeNumber
number_or past None = past
number_or past (Some t) = t

abbrev pub number_in : Library → Name → TypeNumber
number_in lib n = number_or (number_past lib) (type_number lib n)

-- the types of all instances
abbrev pub AreTyped : Library → List Instance → List TypeNumber → Type 0
AreTyped lib is ks = ks ≡ each_some (λ i. Some (number_in lib i.block_type)) is

-- the inputs that an instance's parameters set, if its type is known
abbrev pub inputs_of_type : Library → Instance → Option TypeNumber → List ℕ
inputs_of_type lib i None = []
inputs_of_type lib i (Some t) = each_some (λ x. port_number lib t data_ins x.name) i.parameters

abbrev pub inputs_in : Library → Instance → List ℕ
inputs_in lib i = inputs_of_type lib i (type_number lib i.block_type)

-- ---- Ends

-- an end at a component, among its ports of a kind
abbrev pub component_number : Library → OwnedNetwork → (Ports → List Name) → Name → PortName → Option ConnectionEnd
component_number lib n port_kind c e =
    option_and_then (λ i. option_and_then (λ p. end_at (Some i) (port_kind p) e) (ports_at_index lib n i)) (index_of (instance_names n.1) c)

abbrev pub side_number : Library → OwnedNetwork → FlowKind → Side → Connection → Option ConnectionEnd
side_number lib n f From c = end_number lib n (outputs_of f) (inputs_of f) c.from
side_number lib n f To c = end_number lib n (inputs_of f) (outputs_of f) c.to

abbrev pub connection_number : Library → OwnedNetwork → FlowKind → Connection → Option NumberedConnection
connection_number lib n f c = both_ends (side_number lib n f From c) (side_number lib n f To c)
