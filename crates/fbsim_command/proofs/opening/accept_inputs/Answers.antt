use Rattle.fbsim_command.proofs.lemmas.Common.{subst, sym, IsRefusal}
use Rattle.fbsim_command.specs.Outcomes.{IsUndeclared}
use Rattle.fbsim_command.proofs.lemmas.calls.Warning.{undeclared}
use Rattle.fbsim_command.proofs.opening.accept_inputs.Goals as goal

pub failure_of_run-requires : goal.failure_of_run-requires
failure_of_run-requires c = λ is. subst (IsRefusal c.args.inputs.now) is c.in-Err.ensures.refused

pub returns-in-Err-clause-refused : goal.returns-in-Err-clause-refused
returns-in-Err-clause-refused c =
    subst (IsUndeclared c.args.inputs.now) (sym c.failure_of_run.ensures) (undeclared c.args.inputs.now c.in-Err.error c.in-Err.ensures.refused)
