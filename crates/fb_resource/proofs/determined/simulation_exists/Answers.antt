use Rattle.fb_types.specs.Headline.{system_of, stimuli_of}
use Rattle.fb_laws.proofs.lemmas.soundness.Accepting.{sound_of}
use Rattle.fb_laws.proofs.lemmas.existence.Existence.{there_is}
use Rattle.fb_resource.proofs.determined.simulation_exists.Goals as goal

pub returns : goal.returns
returns c = λ i horizon limit good. there_is (system_of i) (sound_of i good) horizon limit (stimuli_of i)
