use Rattle.fbsim_command.proofs.program.explained.Goals as goal

pub returns : goal.returns
returns c = c.in_ok-format.ensures.ok
