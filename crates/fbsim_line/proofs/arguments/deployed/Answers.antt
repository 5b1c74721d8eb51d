use Rattle.fbsim_line.proofs.arguments.deployed.Goals as goal

pub returns-clause-app : goal.returns-clause-app
returns-clause-app c = c.deployed_with.ensures.app

pub returns-clause-globals : goal.returns-clause-globals
returns-clause-globals c = c.deployed_with.ensures.globals
