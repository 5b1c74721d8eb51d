use Rattle.fb_types.proofs.lemmas.examples.Delay.{delay-trace}
use Rattle.fb_types.proofs.lemmas.examples.ShortDelay.{short-delay-trace}
use Rattle.fb_types.proofs.lemmas.examples.StoppedDelay.{stopped-delay-trace}
use Rattle.fb_types.proofs.laws.worked_delay.Goals as goal

pub returns : goal.returns
returns c = record { restarted = delay-trace; stopped = stopped-delay-trace; short = short-delay-trace }
