-- The instances of a network with their ports and parameters, and the connections between ports (IEC 61499-1, 5.3).
use Rattle.std.specs.Prelude.{ℕ, List, [], ◌∷◌, ◌++◌, Option, Some, None, unwrap_or, codes}
use Rattle.std.specs.List.{flat_map}
use Rattle.fb_types.specs.Names.{Name}
use Rattle.fb_types.specs.Blocks.{Kind, ports_of}
use Rattle.fb_types.specs.Flat.{type_named}
use Rattle.fb_types.specs.Text.{value_text}
use Rattle.fb_types.specs.declared.library.CompositeType.{CompositeType}
use Rattle.fb_types.specs.declared.library.Connection.{Connection}
use Rattle.fb_types.specs.declared.library.EventPort.{EventPort}
use Rattle.fb_types.specs.declared.library.Instance.{Instance}
use Rattle.fb_types.specs.declared.library.Library.{Library}
use Rattle.fb_types.specs.declared.library.Network.{Network}
use Rattle.fb_types.specs.declared.library.Parameter.{Parameter}
use Rattle.fb_types.specs.declared.library.PortName.{PortName}
use Rattle.fb_types.specs.declared.library.Ports.{Ports}
use Rattle.fb_types.specs.declared.library.Variable.{Variable}
use Rattle.fb_text.specs.Pieces.{joined}
use Rattle.fb_draw.specs.Dot.{head, foot}

-- ---- Ports

-- a field of a record, which edges name
abbrev pub field : Name → List ℕ
field n = joined (codes "<" ∷ n ∷ codes "> " ∷ n ∷ [])

abbrev pub next_field : Name → List ℕ
next_field n = codes "|" ++ field n

abbrev pub fields : {A : Type 0} → (A → Name) → List A → List ℕ
fields name_of [] = []
fields name_of (x ∷ xs) = field (name_of x) ++ flat_map (λ y. next_field (name_of y)) xs

abbrev pub event_fields : List EventPort → List ℕ
event_fields es = fields (λ e. e.name) es

abbrev pub variable_fields : List Variable → List ℕ
variable_fields vs = fields (λ v. v.name) vs

-- ---- Instances

abbrev pub parameter_text : Parameter → List ℕ
parameter_text p = joined (codes "\\n" ∷ p.name ∷ codes " := " ∷ value_text p.value ∷ [])

-- a row of the ports: inputs to the left, outputs to the right
abbrev pub event_row : Ports → List ℕ
event_row its = codes "{{ " ++ event_fields its.event_inputs ++ codes "}|{ " ++ event_fields its.event_outputs ++ codes "}}"

abbrev pub variable_row : Ports → List ℕ
variable_row its = codes "{{ " ++ variable_fields its.inputs ++ codes "}|{ " ++ variable_fields its.outputs ++ codes "}}"

-- a block as the standard draws it: events above, the name in the middle, and variables below
abbrev pub block_node : Instance → Ports → List ℕ
block_node i its =
    joined (codes "  \"" ∷ i.name ∷ codes "\" [label=\"" ∷ []) ++ event_row its ++ joined (codes "|" ∷ i.name ∷ codes "\\n" ∷ i.block_type ∷ [])
    ++ flat_map parameter_text i.parameters ++ codes "|" ++ variable_row its ++ codes "\"];\n"

-- an instance with the interface of its type, which exists, as the check has found
abbrev pub node_of : Instance → Option Kind → List ℕ
node_of i None = []
node_of i (Some k) = block_node i (ports_of k)

abbrev pub instance_node : Library → Instance → List ℕ
instance_node lib i = node_of i (type_named lib i.block_type)

-- ---- Connections

-- the end of an edge: a port of an instance, or of the node that represents a side of the composite
abbrev pub edge_end : (side : List ℕ) → PortName → List ℕ
edge_end side p = joined (codes "\"" ∷ unwrap_or p.component side ∷ codes "\":\"" ∷ p.port ∷ codes "\"" ∷ [])

abbrev pub edge : (attributes : List ℕ) → Connection → List ℕ
edge attributes c = codes "  " ++ edge_end (codes "in") c.from ++ codes " -> " ++ edge_end (codes "out") c.to ++ attributes ++ codes ";\n"

abbrev pub network_text : Library → Network → List ℕ
network_text lib net =
    flat_map (instance_node lib) net.instances ++ flat_map (edge []) net.event_connections
    ++ flat_map (edge (codes " [style=dashed]")) net.data_connections

-- ---- Composite types

-- a side of a composite: its event inputs and inputs, or its event outputs and outputs. No name is in lower case.
abbrev pub side_head : (side : List ℕ) → List ℕ
side_head side = joined (codes "  \"" ∷ side ∷ codes "\" [style=rounded, label=\"{{ " ∷ [])

abbrev pub side_node : (side : List ℕ) → List EventPort → List Variable → List ℕ
side_node side es vs =
    side_head side ++ event_fields es ++ codes "}}|{{ " ++ variable_fields vs ++ codes "}}\"];\n"

abbrev pub side_nodes : Ports → List ℕ
side_nodes its = side_node (codes "in") its.event_inputs its.inputs ++ side_node (codes "out") its.event_outputs its.outputs

abbrev pub composite_text : Library → CompositeType → List ℕ
composite_text lib t =
    head (codes "record") t.name ++ side_nodes t.ports ++ network_text lib t.network ++ foot
