-- A declaration and a deployment by number: types, ports, instances and resources by their indexes (IEC 61499-1, 5.3 and
-- 7).
use Rattle.std.specs.Prelude.{◌≡◌, ℕ, List, [], ◌∷◌, map, length, Option, Some, None, position, slice_get, option_map, option_and_then}
use Rattle.fb_types.specs.Names.{Name, same_name}
use Rattle.fb_types.specs.Blocks.{Kind, Event, event_block_named, ports_of}
use Rattle.fb_types.specs.Flat.{kind_of, type_name, kind_of_instance, resource_names_of}
use Rattle.fb_types.specs.Repeated.{OwnedNetwork, instance_names}
use Rattle.fb_types.specs.Unknown.{NameUnknown, event_ins, event_outs, data_ins, data_outs}
use Rattle.fb_types.specs.declared.library.Library.{Library}
use Rattle.fb_types.specs.declared.library.BasicType.{BasicType}
use Rattle.fb_types.specs.declared.library.BlockType.TheVariants as block
use Rattle.fb_types.specs.declared.library.CompositeType.{CompositeType}
use Rattle.fb_types.specs.declared.library.Ports.{Ports}
use Rattle.fb_types.specs.declared.library.Connection.{Connection}
use Rattle.fb_types.specs.declared.library.Instance.{Instance}
use Rattle.fb_types.specs.declared.library.PortName.{PortName}
use Rattle.fb_types.specs.declared.deploy.Plan.{Plan}
use Rattle.fb_types.specs.declared.deploy.Link.{Link}
use Rattle.fb_types.specs.declared.deploy.ResourceEntry.{ResourceEntry}
use Rattle.fb_check_names.specs.declared.numbers.TypeNumber.{TypeNumber}
use Rattle.fb_check_names.specs.declared.numbers.TypeNumber.TheVariants as number
use Rattle.fb_check_names.specs.declared.numbers.ConnectionEnd.{ConnectionEnd}
use Rattle.fb_check_names.specs.declared.numbers.NumberedConnection.{NumberedConnection}
use Rattle.fb_check_names.specs.declared.numbers.LinkEnds.{LinkEnds}
use Rattle.fb_check_names.specs.declared.numbers.NetworkNumbers.{NetworkNumbers}
use Rattle.fb_check_names.specs.declared.numbers.Resolved.{Resolved}

-- the results of f for all elements, or none if one has none
abbrev pub each_or_none : {A B : Type 0} → (A → Option B) → List A → Option (List B)
each_or_none f [] = Some []
each_or_none f (x ∷ xs) = option_and_then (λ y. option_map (λ ys. y ∷ ys) (each_or_none f xs)) (f x)

abbrev pub index_of : List Name → Name → Option ℕ
index_of ns n = position (same_name n) ns

-- ---- Types

-- the event block with the name, else the block type of the declaration
abbrev pub type_number : Library → Name → Option TypeNumber
type_number lib n =
    elim (event_block_named n) [
      | Some k ↦ Some (number.Event k)
      | None ↦ option_map (λ t. number.Declared t) (index_of (map type_name lib.blocks) n)
    ]

abbrev pub kind_of_number : Library → TypeNumber → Option Kind
kind_of_number lib (number.Event k) = Some (Event k)
kind_of_number lib (number.Declared t) = option_map kind_of (slice_get lib.blocks t)

-- ---- Ends of connections

-- the ports of the component at an index
abbrev pub ports_at_index : Library → OwnedNetwork → ℕ → Option Ports
ports_at_index lib n i = option_map ports_of (option_and_then (kind_of_instance lib) (slice_get n.1.instances i))

abbrev pub end_at : Option ℕ → List Name → PortName → Option ConnectionEnd
end_at component ports e = option_map (λ k. record { component = component; port = k }) (index_of ports e.port)

-- an end among the ports of the one kind at a component, or of the other at the boundary
abbrev pub end_number : Library → OwnedNetwork → (component boundary : Ports → List Name) → PortName → Option ConnectionEnd
end_number lib n component boundary e =
    elim e.component [
      | None ↦ option_and_then (λ t. end_at None (boundary t.ports) e) n.0
      | Some c ↦ option_and_then (λ i. option_and_then (λ p. end_at (Some i) (component p) e) (ports_at_index lib n i)) (index_of (instance_names n.1) c)
    ]

abbrev pub both_ends : Option ConnectionEnd → Option ConnectionEnd → Option NumberedConnection
both_ends a b = option_and_then (λ x. option_map (λ y. record { from = x; to = y }) b) a

abbrev pub event_wire : Library → OwnedNetwork → Connection → Option NumberedConnection
event_wire lib n c = both_ends (end_number lib n event_outs event_ins c.from) (end_number lib n event_ins event_outs c.to)

abbrev pub data_wire : Library → OwnedNetwork → Connection → Option NumberedConnection
data_wire lib n c = both_ends (end_number lib n data_outs data_ins c.from) (end_number lib n data_ins data_outs c.to)

-- ---- Networks

-- the indexes of the data inputs that an instance's parameters set
abbrev pub parameter_numbers : Library → Instance → Option (List ℕ)
parameter_numbers lib i =
    elim (kind_of_instance lib i) [ None ↦ None | Some k ↦ each_or_none (λ x. index_of (data_ins (ports_of k)) x.name) i.parameters ]

pub record IsNetwork (lib : Library) (n : OwnedNetwork) (x : NetworkNumbers) : Type 0 where
  pub types : each_or_none (λ i. type_number lib i.block_type) n.1.instances ≡ Some x.types
  pub parameters : each_or_none (parameter_numbers lib) n.1.instances ≡ Some x.parameters
  pub event_wires : each_or_none (event_wire lib n) n.1.event_connections ≡ Some x.event_wires
  pub data_wires : each_or_none (data_wire lib n) n.1.data_connections ≡ Some x.data_wires

-- ---- Deployments

abbrev pub held_numbers : Library → ResourceEntry → Option (List ℕ)
held_numbers lib r = each_or_none (index_of (instance_names lib.application.network)) r.instances

abbrev pub link_ends : Plan → Link → Option LinkEnds
link_ends plan l =
    option_and_then (λ x. option_map (λ y. record { from = x; to = y }) (index_of (resource_names_of plan) l.to)) (index_of (resource_names_of plan) l.from)

-- ---- All numbers

-- Each name is known, and these are the numbers.
pub record IsResolved (lib : Library) (plan : Plan) (r : Resolved) : Type 0 where
  pub known : ¬ (NameUnknown lib plan)
  pub application : IsNetwork lib (None, lib.application.network) r.application
  pub counted : length r.blocks ≡ length lib.blocks
  pub basics : (k : ℕ) (t : BasicType) → slice_get lib.blocks k ≡ Some (block.Basic t) → slice_get r.blocks k ≡ Some None
  pub composites : (k : ℕ) (t : CompositeType) → slice_get lib.blocks k ≡ Some (block.Composite t)
      → (x : NetworkNumbers) × (slice_get r.blocks k ≡ Some (Some x)) × IsNetwork lib (Some t, t.network) x
  pub held : each_or_none (held_numbers lib) plan.resources ≡ Some r.held
  pub links : each_or_none (link_ends plan) plan.links ≡ Some r.links
