-- What is asked of a timer.
use Rattle.fb_types.proofs.Common.{◌≡◌, refl}
use Rattle.fb_types.specs.declared.run.TimerAsk.{TimerAsk}
use Rattle.fb_types.specs.declared.run.TimerAsk.TheVariants.{Keep, Clear, At}
use Rattle.fb_net.specs.Outs.{asked}

-- where nothing was asked before, what is asked now
pub asked_first : (ask : TimerAsk) → asked Keep ask ≡ ask
asked_first Keep = refl
asked_first Clear = refl
asked_first (At tick) = refl
