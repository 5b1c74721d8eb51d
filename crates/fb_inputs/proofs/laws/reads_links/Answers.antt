use Rattle.fb_inputs.proofs.lemmas.deployments.DeployTableLaws.{reads-links}
use Rattle.fb_inputs.proofs.laws.reads_links.Goals as goal

pub returns : goal.returns
returns c = reads-links
