-- Whatever was read has names (this project's own).
use Rattle.fb_types.specs.Headline.{Inputs, system_of}
use Rattle.fb_sim.specs.Given.{Given}
use Rattle.fb_sim.specs.Serial.{Declares}
use Rattle.fb_wave.specs.Named.{HasNames}

-- The resources, the instances and the ports of what given bytes declare have names: a letter or an underscore in upper case, and letters, digits and underscores.
abbrev pub AreReadWithNames : Type 0
AreReadWithNames = (given : Given) (i : Inputs) → Declares given i → HasNames (system_of i)
