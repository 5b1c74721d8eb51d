use Rattle.fbsim_line.proofs.line.fault.Goals as goal

pub returns-in-Ok-2-clause-fault : goal.returns-in-Ok-2-clause-fault
returns-in-Ok-2-clause-fault c = λ fault. absurd fault

pub returns-in-Ok-2-clause-no_help : goal.returns-in-Ok-2-clause-no_help
returns-in-Ok-2-clause-no_help c = λ fault. absurd fault
