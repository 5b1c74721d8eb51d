-- What the blocks of a resource keep by themselves.
use Rattle.fb_types.specs.Headline.{AreAccepted, Inputs}
use Rattle.fb_types.specs.Reactions.{World}
use Rattle.fb_net.specs.Worlds.{IsForest}
use Rattle.fb_net.specs.declared.resource.Forest.{Forest}

-- They represent a world of an accepted system: each way leads to a block of the kind of its instance, and each index to a shell.
pub record IsTree (f : Forest) : Type 0 where
  pub inputs : Inputs
  pub accepted : AreAccepted inputs
  pub world : World
  pub represents : IsForest inputs f world
