use Rattle.fbsim_command.proofs.lemmas.Common.{◌≡◌, IfErr, subst}
use Rattle.fb_sim.specs.declared.outcome.RunError.TheVariants as run
use Rattle.fbsim_command.proofs.lemmas.calls.Reporting.{ends_as, fails_as}
use Rattle.fbsim_command.proofs.program.end_of_run.Goals as goal

pub returns-in-Ok : goal.returns-in-Ok
returns-in-Ok c = ends_as c.args.end c.in-Ok.outcome c.done_of.result c.in-Ok.is c.done_of.ensures

pub returns-in-Err : goal.returns-in-Err
returns-in-Err c = fails_as c.args.end c.in-Err.error c.failure_of_run.result c.in-Err.is c.failure_of_run.ensures

pub failure_of_run-requires : goal.failure_of_run-requires
failure_of_run-requires c = subst (λ r. IfErr r (λ e. e ≡ run.Failed → ⊥)) c.in-Err.is c.requires
