use Rattle.fb_inputs.proofs.lemmas.deployments.DeployTableLaws.{ignores-order}
use Rattle.fb_inputs.proofs.laws.ignores_order.Goals as goal

pub returns : goal.returns
returns c = ignores-order
