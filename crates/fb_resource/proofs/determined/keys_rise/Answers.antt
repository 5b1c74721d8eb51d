use Rattle.fb_types.specs.Headline.{system_of, stimuli_of}
use Rattle.fb_laws.proofs.lemmas.soundness.Accepting.{sound_of}
use Rattle.fb_laws.proofs.lemmas.takings.KeysRise.{keys_rise}
use Rattle.fb_resource.proofs.determined.keys_rise.Goals as goal

pub returns : goal.returns
returns c = λ i horizon limit ts good x. keys_rise (system_of i) (sound_of i good) limit (stimuli_of i) horizon ts x
