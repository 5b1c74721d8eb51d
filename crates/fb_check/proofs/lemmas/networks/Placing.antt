-- Networks among those of a declaration.
use Rattle.fb_types.proofs.Common.{◌≡◌, ℕ, Some, None, Contains, slice_get, flat_map, networks, networks_in}
use Rattle.fb_types.specs.declared.library.Library.{Library}
use Rattle.fb_types.specs.declared.library.CompositeType.{CompositeType}
use Rattle.fb_types.specs.declared.library.BlockType.TheVariants as block
use Rattle.fb_types.proofs.lemmas.lists.Elements.{Contains-here, Contains-there}
use Rattle.fb_check.proofs.lemmas.networks.Naming.{composite_in}

-- the application's network
pub application_in : (lib : Library) → Contains (networks lib) (None, lib.application.network)
application_in lib = Contains-here (None, lib.application.network) (flat_map networks_in lib.blocks)

-- the network inside a composite type
pub inside_in :
    (lib : Library) (k : ℕ) (t : CompositeType) → slice_get lib.blocks k ≡ Some (block.Composite t) → Contains (networks lib) (Some t, t.network)
inside_in lib k t h =
    Contains-there (None, lib.application.network) (flat_map networks_in lib.blocks) (Some t, t.network) (composite_in lib.blocks k t h)
