use Rattle.fb_inputs.proofs.lemmas.deployments.DeployTableLaws.{reads-resources}
use Rattle.fb_inputs.proofs.laws.reads_resources.Goals as goal

pub returns : goal.returns
returns c = reads-resources
