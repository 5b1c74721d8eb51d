-- How a run begins (this project's profile).
use Rattle.std.specs.Prelude.{◌≡◌, ℕ, List, length, Some, slice_get}
use Rattle.fb_types.specs.Headline.{Inputs, system_of}
use Rattle.fb_types.specs.Simulation.{opening_state}
use Rattle.fb_types.specs.Takes.{world_of}
use Rattle.fb_net.specs.Worlds.{IsForest}
use Rattle.fb_net.specs.declared.resource.Forest.{Forest}

-- The blocks of this many resources are as they begin.
pub record AreOpened (i : Inputs) (count : ℕ) (trees : List Forest) : Type 0 where
  pub counted : length trees ≡ count
  pub each : (r : ℕ) (t : Forest) → slice_get trees r ≡ Some t → IsForest i t (world_of (opening_state (system_of i)) r) × (t.resource ≡ r)
