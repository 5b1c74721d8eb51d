use Rattle.fbsim_command.specs.Outcomes.{IsUndeclared}
use Rattle.fbsim_command.proofs.lemmas.rules.HeldRules.{passed-on}
use Rattle.fbsim_command.proofs.lint.lines_of.Goals as goal

pub returns-in_err-system-clause-refused : goal.returns-in_err-system-clause-refused
returns-in_err-system-clause-refused c = passed-on c.from_residual.result _ (IsUndeclared c.args.inputs.now) c.from_residual.ensures.1 c.in_err-system.ensures.refused
