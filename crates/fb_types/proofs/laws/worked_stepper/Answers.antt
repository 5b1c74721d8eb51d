use Rattle.fb_types.proofs.lemmas.examples.Stepper.{stepper-trace}
use Rattle.fb_types.proofs.laws.worked_stepper.Goals as goal

pub returns : goal.returns
returns c = stepper-trace
