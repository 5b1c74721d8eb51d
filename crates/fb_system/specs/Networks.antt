-- The networks of an application by number, and what the ends of their connections represent (IEC 61499-1, 5.3).
use Rattle.std.specs.Prelude.{⊤, ◌≡◌, ◌≤◌, ◌<◌, ℕ, List, [], ◌∷◌, map, length, Option, Some, None, All, slice_get}
use Rattle.std.specs.List.{filter}
use Rattle.fb_types.specs.Names.{Name, Path, Port, same_port}
use Rattle.fb_types.specs.Blocks.{Kind, Composite, ports_of}
use Rattle.fb_types.specs.Counts.{IsNarrow}
use Rattle.fb_types.specs.Flat.{kind_of, kind_at, network_at, paths_of, first_of}
use Rattle.fb_types.specs.Repeated.{Twice, NameTwice, instance_names}
use Rattle.fb_types.specs.Unknown.{event_ins, event_outs, data_ins, data_outs}
use Rattle.fb_types.specs.declared.library.Library.{Library}
use Rattle.fb_types.specs.declared.library.BlockType.{BlockType}
use Rattle.fb_types.specs.declared.library.CompositeType.{CompositeType}
use Rattle.fb_types.specs.declared.library.Instance.{Instance}
use Rattle.fb_types.specs.declared.library.Network.{Network}
use Rattle.fb_types.specs.declared.library.Ports.{Ports}
use Rattle.fb_types.specs.declared.deploy.Plan.{Plan}
use Rattle.fb_check_names.specs.Numbers.{IsNetwork}
use Rattle.fb_check_names.specs.Unknown.{AreBlocks}
use Rattle.fb_check_names.specs.declared.numbers.ConnectionEnd.{ConnectionEnd}
use Rattle.fb_check_names.specs.declared.numbers.NetworkNumbers.{NetworkNumbers}
use Rattle.fb_system.specs.Layouts.{IsLayout, path_of}
use Rattle.fb_system.specs.declared.layout.Layout.{Layout}
use Rattle.fb_system.specs.declared.tables.Tables.{Tables}

-- ---- What the tables are

-- the indexes of the ports of all types fit in 32 bits
abbrev pub AreNarrow : List BlockType → Type 0
AreNarrow ts = All (λ t. IsNarrow (ports_of (kind_of t))) ts

-- The instances of a declaration and its networks, by number.
pub record AreTables (lib : Library) (layout : Layout) (application : NetworkNumbers) (blocks : List (Option NetworkNumbers)) : Type 0 where
  pub plan : Plan
  pub once : ¬ (NameTwice lib plan)
  pub few : length (paths_of lib) ≤ 4096
  pub narrow : AreNarrow lib.blocks
  pub is_layout : IsLayout lib layout
  pub is_application : IsNetwork lib (None, lib.application.network) application
  pub are_blocks : AreBlocks lib blocks

abbrev pub IsNetlist : Tables → Type 0
IsNetlist t = AreTables t.library t.layout t.application t.blocks

-- ---- Networks

-- the composite that a network is inside of, or none for the application's
abbrev pub path_around : Library → Option ℕ → Path
path_around lib None = []
path_around lib (Some i) = path_of lib i

abbrev pub IsAround : Library → Option ℕ → Type 0
IsAround lib None = ⊤
IsAround lib (Some i) = i < length (paths_of lib)

abbrev pub composite_of : Option Kind → Option CompositeType
composite_of (Some (Composite t)) = Some t
composite_of _ = None

-- The numbers are those of the network at a path.
pub record IsWired (lib : Library) (p : Path) (x : NetworkNumbers) : Type 0 where
  pub network : Network
  pub is_network : network_at lib p ≡ Some network
  pub once : ¬ (Twice (instance_names network))
  pub numbers : IsNetwork lib (composite_of (kind_at lib p), network) x

-- ---- Ends of connections

-- the path of a component by its index, or at the boundary that of the composite itself
abbrev pub IsThere : Library → Path → Option ℕ → Path → Type 0
IsThere lib p None a = a ≡ p
IsThere lib p (Some j) a =
    (net : Network) × (i : Instance) × (network_at lib p ≡ Some net) × (slice_get net.instances j ≡ Some i) × (a ≡ i.name ∷ p)

-- the names of the one kind at a component, or of the other at the boundary
abbrev pub side : Option ℕ → (component boundary : Ports → List Name) → Ports → List Name
side None component boundary = boundary
side (Some j) component boundary = component

-- In the network at a path, an end represents a port.
pub record IsEndOf (lib : Library) (p : Path) (component boundary : Ports → List Name) (e : ConnectionEnd) (q : Port) : Type 0 where
  pub there : IsThere lib p e.component q.at
  pub kind : Kind
  pub is_kind : kind_at lib q.at ≡ Some kind
  pub name : slice_get (side e.component component boundary (ports_of kind)) e.port ≡ Some q.name

-- the event, or the variable, from which connections leave in the network around, and those to which they lead
abbrev pub EventLeaves : Library → Option ℕ → ConnectionEnd → Port → Type 0
EventLeaves lib around e q = IsEndOf lib (path_around lib around) event_outs event_ins e q

abbrev pub EventEnters : Library → Option ℕ → ConnectionEnd → Port → Type 0
EventEnters lib around e q = IsEndOf lib (path_around lib around) event_ins event_outs e q

abbrev pub DataLeaves : Library → Option ℕ → ConnectionEnd → Port → Type 0
DataLeaves lib around e q = IsEndOf lib (path_around lib around) data_outs data_ins e q

abbrev pub DataEnters : Library → Option ℕ → ConnectionEnd → Port → Type 0
DataEnters lib around e q = IsEndOf lib (path_around lib around) data_ins data_outs e q

-- ---- Along connections

abbrev pub targets_along : List (Port × Port) → Port → List Port
targets_along cs q = map (λ c. c.1) (filter (λ c. same_port c.0 q) cs)

abbrev pub source_along : List (Port × Port) → Port → Option Port
source_along cs q = first_of (map (λ c. c.0) (filter (λ c. same_port c.1 q) cs))
