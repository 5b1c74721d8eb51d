use Rattle.fb_types.proofs.Common.{◌≡◌, subst, IfOk}
use Rattle.clap.specs.Words.{App, app_of}
use Rattle.fbsim_line.specs.Line.{with_arguments}
use Rattle.fbsim_line.proofs.arguments.deployed_with.Goals as goal

pub returns-clause-app : goal.returns-clause-app
returns-clause-app c = subst (λ (a : App). IfOk c.with_all.result (λ r. app_of r ≡ with_arguments a c.args.outline.arguments.now)) c.in_ok-command.ensures.app c.with_all.ensures.app

pub returns-clause-globals : goal.returns-clause-globals
returns-clause-globals c = c.with_all.ensures.globals
