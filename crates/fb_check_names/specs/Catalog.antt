-- The indexes of the names of a declaration and a deployment (IEC 61499-1, 5 to 7; the name spaces are this project's
-- profile).
use Rattle.std.specs.Prelude.{◌≡◌, ℕ, List, [], map, length, Some, slice_get}
use Rattle.fb_types.specs.Names.{Name}
use Rattle.fb_types.specs.Flat.{type_name, resource_names_of}
use Rattle.fb_types.specs.Repeated.{NameTwice, port_names, state_names, algorithm_names, instance_names}
use Rattle.fb_types.specs.declared.library.Library.{Library}
use Rattle.fb_types.specs.declared.library.BlockType.{BlockType}
use Rattle.fb_types.specs.declared.library.BlockType.TheVariants as block
use Rattle.fb_types.specs.declared.deploy.Plan.{Plan}
use Rattle.fb_check_names.specs.declared.catalog.BlockIndexes.{BlockIndexes}
use Rattle.fb_check_names.specs.declared.catalog.Catalog.{Catalog}
use Rattle.fb_check_names.specs.Indexes.{IsIndex}

-- the names of a basic type's states, none of a composite type
abbrev pub states_of : BlockType → List Name
states_of (block.Basic t) = state_names t
states_of (block.Composite t) = []

abbrev pub algorithms_of : BlockType → List Name
algorithms_of (block.Basic t) = algorithm_names t
algorithms_of (block.Composite t) = []

-- the names of a composite type's instances, none of a basic type
abbrev pub instances_of : BlockType → List Name
instances_of (block.Basic t) = []
instances_of (block.Composite t) = instance_names t.network

pub record IsBlock (t : BlockType) (x : BlockIndexes) : Type 0 where
  pub ports : IsIndex (port_names t) x.ports
  pub states : IsIndex (states_of t) x.states
  pub algorithms : IsIndex (algorithms_of t) x.algorithms
  pub instances : IsIndex (instances_of t) x.instances

-- No name is given twice, and the catalog has the index of each.
pub record IsCatalog (lib : Library) (plan : Plan) (c : Catalog) : Type 0 where
  pub once : ¬ (NameTwice lib plan)
  pub types : IsIndex (map type_name lib.blocks) c.types
  pub counted : length c.blocks.items ≡ length lib.blocks
  pub blocks : (k : ℕ) (t : BlockType) (x : BlockIndexes) → slice_get lib.blocks k ≡ Some t → slice_get c.blocks.items k ≡ Some x → IsBlock t x
  pub instances : IsIndex (instance_names lib.application.network) c.instances
  pub resources : IsIndex (resource_names_of plan) c.resources
