use Rattle.fb_inputs.proofs.lemmas.deployments.DeployNumberLaws.{judges-numbers}
use Rattle.fb_inputs.proofs.laws.judges_numbers.Goals as goal

pub returns : goal.returns
returns c = judges-numbers
