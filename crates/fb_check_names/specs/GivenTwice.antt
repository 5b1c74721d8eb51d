-- E20 part by part: what a block type, a network or a deployment gives twice (IEC 61499-1, 5 to 7; the name spaces are this project's profile).
use Rattle.std.specs.Prelude.{◌≡◌, ◌⊎◌, ℕ, List, [], ◌++◌, map, length, Some, Contains, slice_get}
use Rattle.fb_types.specs.Names.{Name}
use Rattle.fb_types.specs.Blocks.{event_blocks, event_names, variable_names}
use Rattle.fb_types.specs.Flat.{type_name, resource_names_of}
use Rattle.fb_types.specs.Repeated.{Twice, state_names, algorithm_names, instance_names, with_lists, parameter_lists, event_pairs, link_pairs}
use Rattle.fb_types.specs.declared.library.BlockType.{BlockType}
use Rattle.fb_types.specs.declared.library.BlockType.TheVariants as block
use Rattle.fb_types.specs.declared.library.Network.{Network}
use Rattle.fb_types.specs.declared.library.Ports.{Ports}
use Rattle.fb_types.specs.declared.library.Variable.{Variable}
use Rattle.fb_types.specs.declared.deploy.Plan.{Plan}
use Rattle.fb_check_names.specs.declared.catalog.BlockIndexes.{BlockIndexes}
use Rattle.fb_check_names.specs.Catalog.{IsBlock}

-- A name is twice in one of the lists.
abbrev pub TwiceIn : List (List Name) → Type 0
TwiceIn lists = (ns : List Name) × Contains lists ns × Twice ns

-- the ports of an interface, and internal variables
abbrev pub names_of_ports : Ports → List Variable → List Name
names_of_ports p vs = event_names p.event_inputs ++ event_names p.event_outputs ++ variable_names p.inputs ++ variable_names p.outputs ++ variable_names vs

abbrev pub PortTwice : Ports → List Variable → Type 0
PortTwice p vs = Twice (names_of_ports p vs) ⊎ TwiceIn (with_lists p)

abbrev pub NetworkTwice : Network → Type 0
NetworkTwice net = Twice (instance_names net) ⊎ TwiceIn (parameter_lists net) ⊎ Twice (event_pairs net)

abbrev pub BlockTwice : BlockType → Type 0
BlockTwice (block.Basic t) = PortTwice t.ports t.internals ⊎ Twice (state_names t) ⊎ Twice (algorithm_names t)
BlockTwice (block.Composite t) = PortTwice t.ports [] ⊎ NetworkTwice t.network

-- the event blocks' names and those of the declared types are one name space
abbrev pub TypeTwice : List BlockType → Type 0
TypeTwice ts = Twice (map (λ e. e.0) event_blocks ++ map type_name ts)

abbrev pub PlanTwice : Plan → Type 0
PlanTwice plan = Twice (resource_names_of plan) ⊎ Twice (link_pairs plan)

-- The names of each block type by their indexes, if it gives nothing twice.
pub record AreBlocks (ts : List BlockType) (xs : List BlockIndexes) : Type 0 where
  pub counted : length xs ≡ length ts
  pub each : (k : ℕ) (t : BlockType) (x : BlockIndexes) → slice_get ts k ≡ Some t → slice_get xs k ≡ Some x → ¬ (BlockTwice t) → IsBlock t x
