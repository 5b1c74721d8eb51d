use Rattle.fbsim_command.proofs.program.command_exit.Goals as goal

pub returns : goal.returns
returns g c = c.command_with_clock.ensures
