use Rattle.fb_types.specs.Headline.{system_of, stimuli_of}
use Rattle.fb_laws.proofs.lemmas.soundness.Accepting.{sound_of}
use Rattle.fb_laws.proofs.lemmas.resources.OneResource.{histories_law, one_run, lines_law, stops_law}
use Rattle.fb_resource.proofs.laws.histories.Goals as goal

pub returns : goal.returns
returns c = record {
  alone = λ i horizon limit ts good x. histories_law (system_of i) (sound_of i good) (stimuli_of i) horizon limit ts x;
  one = λ i horizon limit ts good x. one_run (system_of i) (sound_of i good) (stimuli_of i) horizon limit ts x;
  lines = λ i horizon limit ts good x. lines_law (system_of i) (sound_of i good) (stimuli_of i) horizon limit ts x;
  stops = λ i horizon limit ts good x. stops_law (system_of i) (sound_of i good) (stimuli_of i) horizon limit ts x;
}
