use Rattle.std.proofs.Common.{sym}
use Rattle.fb_ecc.specs.Trials.{is_number_present}
use Rattle.fb_ecc.proofs.trial.is_present.Goals as goal

pub returns-in-Some-None : goal.returns-in-Some-None
returns-in-Some-None c = λ i. is_number_present ((sym c.in-Some-None.is-0) i) ((sym c.in-Some-None.is-1) i)
