use Rattle.fb_wave.proofs.lemmas.ByTick.{ticks_are}
use Rattle.fb_wave.proofs.laws.ticks_follow.Goals as goal

pub returns : goal.returns
returns c = λ sys ls rise. ticks_are sys ls rise
