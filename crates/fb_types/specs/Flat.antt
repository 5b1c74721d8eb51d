-- The flat system of a declaration and a deployment (IEC 61499-1, 5.3 and 7; links and their latencies are this project's profile).
use Rattle.std.specs.Prelude.{ℕ, zero, suc, pos, ◌+◌, List, [], ◌∷◌, ◌++◌, map, length, ◌&&◌, nat_le, if◌then◌else◌, Option, Some, None, unwrap_or, position, flat_map, slice_get, option_and_then, option_map}
use Rattle.std.specs.List.{filter}
use Rattle.fb_types.specs.Names.{Name, same_name, Path, same_path, Port, same_port}
use Rattle.fb_types.specs.Blocks.{Kind, Basic, Event, Composite, named, event_blocks, ports_of, variables_of, initial_of, among}
use Rattle.fb_types.specs.Systems.{System}
use Rattle.fb_types.specs.declared.value.Value.{Value}
use Rattle.fb_types.specs.declared.value.Value.TheVariants as value
use Rattle.fb_types.specs.declared.library.Library.{Library}
use Rattle.fb_types.specs.declared.library.BlockType.{BlockType}
use Rattle.fb_types.specs.declared.library.BlockType.TheVariants as block
use Rattle.fb_types.specs.declared.library.Network.{Network}
use Rattle.fb_types.specs.declared.library.Instance.{Instance}
use Rattle.fb_types.specs.declared.library.Connection.{Connection}
use Rattle.fb_types.specs.declared.library.PortName.{PortName}
use Rattle.fb_types.specs.declared.library.Variable.{Variable}
use Rattle.fb_types.specs.declared.latency.Entry.{Entry}
use Rattle.fb_types.specs.declared.deploy.Plan.{Plan}
use Rattle.fb_types.specs.declared.deploy.Link.{Link}

-- the first element, if there is one
abbrev pub first_of : {A : Type 0} → List A → Option A
first_of [] = None
first_of (x ∷ xs) = Some x

-- the last element, if there is one
abbrev pub last_of : {A : Type 0} → List A → Option A
last_of [] = None
last_of (x ∷ []) = Some x
last_of (x ∷ y ∷ ys) = last_of (y ∷ ys)

-- ---- Instances

abbrev pub kind_of : BlockType → Kind
kind_of (block.Basic t) = Basic t
kind_of (block.Composite t) = Composite t

abbrev pub type_name : BlockType → Name
type_name (block.Basic t) = t.name
type_name (block.Composite t) = t.name

-- an event block's name represents it, and any other for the block type of the declaration
abbrev pub type_named : Library → Name → Option Kind
type_named lib n =
    elim (named (λ e. e.0) n event_blocks) [ Some e ↦ Some (Event e.1) | None ↦ option_map kind_of (named type_name n lib.blocks) ]

abbrev pub network_of : Kind → Option Network
network_of (Basic t) = None
network_of (Event k) = None
network_of (Composite t) = Some t.network

abbrev pub instance_in : Network → Name → Option Instance
instance_in net n = named (λ i. i.name) n net.instances

abbrev pub kind_of_instance : Library → Instance → Option Kind
kind_of_instance lib i = type_named lib i.block_type

-- the network inside an instance, if its type has one
abbrev pub inside : Library → Instance → Option Network
inside lib i = option_and_then network_of (kind_of_instance lib i)

-- the network at a path: the application's, or the one inside the instance there
abbrev pub network_at : Library → Path → Option Network
network_at lib [] = Some lib.application.network
network_at lib (n ∷ p) = option_and_then (inside lib) (option_and_then (λ net. instance_in net n) (network_at lib p))

abbrev pub instance_at : Library → Path → Option Instance
instance_at lib [] = None
instance_at lib (n ∷ p) = option_and_then (λ net. instance_in net n) (network_at lib p)

abbrev pub kind_at : Library → Path → Option Kind
kind_at lib p = option_and_then (kind_of_instance lib) (instance_at lib p)

-- The paths inside a network, at most `depth` names deep: a composite before its components, and these before its next
-- sibling.
abbrev pub paths_inside : (depth : ℕ) → Library → Path → Network → List Path
paths_inside zero lib p net = []
paths_inside (suc d) lib p net =
    flat_map (λ i. (i.name ∷ p) ∷ elim (inside lib i) [ None ↦ [] | Some inner ↦ paths_inside d lib (i.name ∷ p) inner ]) net.instances

-- all paths: the highest composite, of height 16, has leaves 17 names deep
abbrev pub paths_of : Library → List Path
paths_of lib = paths_inside 17 lib [] lib.application.network

abbrev pub number_of : List Path → Path → ℕ
number_of ps p = unwrap_or (position (same_path p) ps) 0

-- ---- Connections

abbrev pub parent : Path → Path
parent [] = []
parent (n ∷ p) = p

-- the port that a name represents in the network at a path
abbrev pub port_in : Path → PortName → Port
port_in p n = elim n.component [ None ↦ record { at = p; name = n.port } | Some c ↦ record { at = c ∷ p; name = n.port } ]

abbrev pub pairs_in : Path → List Connection → List (Port × Port)
pairs_in p cs = map (λ c. (port_in p c.from, port_in p c.to)) cs

-- the connections of the network at a path, in the order of the text
abbrev pub events_inside : Library → Path → List (Port × Port)
events_inside lib p = elim (network_at lib p) [ None ↦ [] | Some net ↦ pairs_in p net.event_connections ]

abbrev pub data_inside : Library → Path → List (Port × Port)
data_inside lib p = elim (network_at lib p) [ None ↦ [] | Some net ↦ pairs_in p net.data_connections ]

-- A port of an instance may be an end of connections around it, and as a boundary port of connections inside it.
abbrev pub events_at : Library → Path → List (Port × Port)
events_at lib p = events_inside lib (parent p) ++ events_inside lib p

abbrev pub data_at : Library → Path → List (Port × Port)
data_at lib p = data_inside lib (parent p) ++ data_inside lib p

abbrev pub targets_of : Library → Port → List Port
targets_of lib q = map (λ c. c.1) (filter (λ c. same_port c.0 q) (events_at lib q.at))

abbrev pub source_of : Library → Port → Option Port
source_of lib q = first_of (map (λ c. c.0) (filter (λ c. same_port c.1 q) (data_at lib q.at)))

-- ---- Variables

abbrev pub variables_in : Kind → List Variable
variables_in (Basic t) = variables_of t
variables_in k = (ports_of k).inputs ++ (ports_of k).outputs

abbrev pub zero_value : Value
zero_value = value.Whole (pos 0)

abbrev pub declared_initial : Option Kind → Name → Value
declared_initial None v = zero_value
declared_initial (Some k) v = elim (named (λ x. x.name) v (variables_in k)) [ None ↦ zero_value | Some x ↦ initial_of x ]

-- the instance's parameter, else the declared initial value, else 0 or FALSE
abbrev pub initial_at : Library → Port → Value
initial_at lib q =
    elim (option_and_then (λ i. named (λ x. x.name) q.name i.parameters) (instance_at lib q.at)) [
      | Some x ↦ x.value
      | None ↦ declared_initial (kind_at lib q.at) q.name
    ]

-- ---- Resources and links

abbrev pub resource_names_of : Plan → List Name
resource_names_of plan = map (λ r. r.name) plan.resources

-- the resource that holds an instance of the application
abbrev pub holder : Plan → Name → ℕ
holder plan n = if plan.holds_all then 0 else unwrap_or (position (λ r. among r.instances n) plan.resources) 0

-- Components are in the resource of their composite.
abbrev pub resource_of : Plan → Path → ℕ
resource_of plan [] = 0
resource_of plan (n ∷ []) = holder plan n
resource_of plan (n ∷ m ∷ p) = resource_of plan (m ∷ p)

abbrev pub name_of_resource : Plan → ℕ → Name
name_of_resource plan r = unwrap_or (slice_get (resource_names_of plan) r) []

abbrev pub resource_named : Plan → Name → ℕ
resource_named plan n = unwrap_or (position (same_name n) (resource_names_of plan)) 0

abbrev pub link_between : Plan → ℕ → ℕ → Option ℕ
link_between plan r s =
    position (λ l. same_name l.from (name_of_resource plan r) && same_name l.to (name_of_resource plan s)) plan.links

abbrev pub end_of : (Link → Name) → Plan → ℕ → ℕ
end_of side plan l = elim (slice_get plan.links l) [ None ↦ 0 | Some x ↦ resource_named plan (side x) ]

-- the latency of the last entry whose tick is at most the tick of sending
abbrev pub latency_at : List Entry → ℕ → ℕ
latency_at table sent = elim (last_of (filter (λ e. nat_le e.from sent) table)) [ None ↦ 1 | Some e ↦ e.latency ]

abbrev pub latency_of : Plan → (link sent : ℕ) → ℕ
latency_of plan l sent = elim (slice_get plan.links l) [ None ↦ 1 | Some x ↦ latency_at x.latency sent ]

-- ---- The flat system

abbrev pub flat : Library → Plan → System
flat lib plan =
    record {
      paths = paths_of lib;
      number = number_of (paths_of lib);
      kind = kind_at lib;
      resource = resource_of plan;
      targets = targets_of lib;
      source = source_of lib;
      initial = initial_at lib;
      link = λ r s. unwrap_or (link_between plan r s) 0;
      links = length plan.links;
      sender = end_of (λ x. x.from) plan;
      receiver = end_of (λ x. x.to) plan;
      arrival = λ l sent. sent + latency_of plan l sent;
      resource_names = resource_names_of plan;
    }
