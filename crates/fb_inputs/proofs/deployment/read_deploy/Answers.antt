use Rattle.fb_inputs.proofs.lemmas.deployments.Outcomes.{deploy_number}
use Rattle.fb_inputs.proofs.deployment.read_deploy.Goals as goal

pub returns-in-Err : goal.returns-in-Err
returns-in-Err c = deploy_number c.args.bytes.now c.in-Err.fault c.deploy_error.result c.deploy_error.ensures c.in-Err.ensures

pub returns-in-Ok : goal.returns-in-Ok
returns-in-Ok c = c.in-Ok.ensures
