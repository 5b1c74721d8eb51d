use Rattle.fb_laws.proofs.lemmas.soundness.Accepting.{sound_of}
use Rattle.fb_laws.proofs.soundness.accepted_are_sound.Goals as goal

pub returns : goal.returns
returns c = sound_of
