use Rattle.fb_types.specs.Headline.{system_of, stimuli_of}
use Rattle.fb_laws.proofs.lemmas.soundness.Accepting.{sound_of}
use Rattle.fb_laws.proofs.lemmas.schedules.AllSchedules.{states_law, messages_law, end_law, stop_law, final_law, phases_law}
use Rattle.fb_window.proofs.laws.schedules.Goals as goal

pub returns : goal.returns
returns c = record {
  states = λ i horizon limit es good sc. states_law (system_of i) (sound_of i good) (stimuli_of i) horizon limit es sc;
  messages = λ i horizon limit es good sc. messages_law (system_of i) (sound_of i good) (stimuli_of i) horizon limit es sc;
  end = λ i horizon limit es good sc. end_law (system_of i) (sound_of i good) (stimuli_of i) horizon limit es sc;
  stop = λ i horizon limit es good sc. stop_law (system_of i) (sound_of i good) (stimuli_of i) horizon limit es sc;
  finals = λ i horizon limit es good sc. final_law (system_of i) (sound_of i good) (stimuli_of i) horizon limit es sc;
  phases = λ i horizon limit es good sc. phases_law (system_of i) (sound_of i good) (stimuli_of i) horizon limit es sc;
}
