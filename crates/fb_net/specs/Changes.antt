-- How the blocks of one resource change, seen through the paths (IEC 61499-1, 5.2 and 5.3).
use Rattle.std.specs.Prelude.{◌≡◌, ℕ}
use Rattle.fb_types.specs.Names.{Name, with_value}
use Rattle.fb_types.specs.EventBlocks.{Memory}
use Rattle.fb_types.specs.Headline.{Inputs, system_of}
use Rattle.fb_types.specs.Numbers.{path_at}
use Rattle.fb_types.specs.Reactions.{World, with_block, with_held, from_inside}
use Rattle.fb_types.specs.States as model
use Rattle.fb_types.specs.declared.value.Value.{Value}
use Rattle.fb_types.specs.declared.run.InstanceVariable.{InstanceVariable}
use Rattle.fb_system.specs.Ports.{variable_of}
use Rattle.fb_net.specs.Worlds.{InForest, IsForest}
use Rattle.fb_net.specs.declared.resource.Forest.{Forest}

-- the model's block of an instance
abbrev pub block_in : Inputs → World → (instance : ℕ) → model.Block
block_in i w k = w.blocks (path_at (system_of i) k)

-- the world with another block at an instance
abbrev pub with_instance : Inputs → (instance : ℕ) → model.Block → World → World
with_instance i k b w = with_block (path_at (system_of i) k) b w

-- An instance has changed so, and all else stays: in each world that the blocks represented, they represent what that makes of it.
pub record Changes (i : Inputs) (old : Forest) (k : ℕ) (change : model.Block → model.Block) (new : Forest) : Type 0 where
  pub resource : new.resource ≡ old.resource
  pub represents : (w : World) → IsForest i old w → InForest i old k → IsForest i new (with_instance i k (change (block_in i w k)) w)

-- a connection or a stimulus has brought a value to a data input
abbrev pub slot_set : Name → Value → model.Block → model.Block
slot_set n v b = record b { slots = with_value n v b.slots }

-- a data output shows another value
abbrev pub output_shown : Name → Value → model.Block → model.Block
output_shown n v b = record b { published = with_value n v b.published }

-- a data input was sampled
abbrev pub input_sampled : Name → Value → model.Block → model.Block
input_sampled n v b = record b { variables = with_value n v b.variables }

-- an event block remembers something else
abbrev pub remembered : Memory → model.Block → model.Block
remembered m b = record b { memory = model.Remembers m }

-- The held copy of a variable of another resource has changed.
pub record Holds (i : Inputs) (old : Forest) (x : InstanceVariable) (v : Value) (new : Forest) : Type 0 where
  pub resource : new.resource ≡ old.resource
  pub represents : (w : World) → IsForest i old w → IsForest i new (record w { held = with_held (variable_of (system_of i) x) v w.held })

-- The value is what a data output of a composite shows from inside.
abbrev pub ShowsInside : Inputs → Forest → InstanceVariable → Value → Type 0
ShowsInside i t x v =
    (w : World) → IsForest i t w → InForest i t x.instance →
    v ≡ from_inside (system_of i) t.resource w (variable_of (system_of i) x).at (variable_of (system_of i) x).name
