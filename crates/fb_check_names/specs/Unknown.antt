-- E21 by its parts: names of a network, a composite type or the deployment that are unknown (IEC 61499-1, 5.3 and
-- 7).
use Rattle.std.specs.Prelude.{◌≡◌, ◌⊎◌, ℕ, List, ◌++◌, length, flat_map, false, Option, Some, None, Contains, slice_get}
use Rattle.fb_types.specs.Repeated.{OwnedNetwork}
use Rattle.fb_types.specs.Unknown.{Required, required_types, required_parameters, required_deployment, ends_known}
use Rattle.fb_types.specs.declared.library.Library.{Library}
use Rattle.fb_types.specs.declared.library.BasicType.{BasicType}
use Rattle.fb_types.specs.declared.library.BlockType.{BlockType}
use Rattle.fb_types.specs.declared.library.BlockType.TheVariants as block
use Rattle.fb_types.specs.declared.library.CompositeType.{CompositeType}
use Rattle.fb_types.specs.declared.deploy.Plan.{Plan}
use Rattle.fb_check_names.specs.declared.numbers.NetworkNumbers.{NetworkNumbers}
use Rattle.fb_check_names.specs.Numbers.{IsNetwork}

-- the names of types and of parameters in a network
abbrev pub required_network : Library → OwnedNetwork → List Required
required_network lib n = required_types lib n.1 ++ flat_map (required_parameters lib) n.1.instances

-- A type, a parameter or an end of a connection in the network is unknown.
abbrev pub NetworkUnknown : Library → OwnedNetwork → Type 0
NetworkUnknown lib n = ((w : Required) × Contains (required_network lib n) w × ¬ (Contains w.1 w.0)) ⊎ (ends_known lib n ≡ false)

-- A mapped instance or an end of a link is unknown.
abbrev pub DeploymentUnknown : Library → Plan → Type 0
DeploymentUnknown lib plan = (w : Required) × Contains (required_deployment lib plan) w × ¬ (Contains w.1 w.0)

-- the network of a block type by number, none of a basic type
abbrev pub IsBlockNumbers : Library → BlockType → Option NetworkNumbers → Type 0
IsBlockNumbers lib (block.Basic t) o = o ≡ None
IsBlockNumbers lib (block.Composite t) o = (x : NetworkNumbers) × (o ≡ Some x) × IsNetwork lib (Some t, t.network) x

-- the networks of the composite types, each at the index of its type
pub record AreBlocks (lib : Library) (xs : List (Option NetworkNumbers)) : Type 0 where
  pub counted : length xs ≡ length lib.blocks
  pub basics : (k : ℕ) (t : BasicType) → slice_get lib.blocks k ≡ Some (block.Basic t) → slice_get xs k ≡ Some None
  pub composites : (k : ℕ) (t : CompositeType) → slice_get lib.blocks k ≡ Some (block.Composite t)
      → (x : NetworkNumbers) × (slice_get xs k ≡ Some (Some x)) × IsNetwork lib (Some t, t.network) x
