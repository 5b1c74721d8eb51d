use Rattle.fbsim_command.proofs.program.command.Goals as goal

-- what standard error got, if it took it all, is dropped
pub returns : goal.returns
returns g c = let done = c.command_exit.ensures in (done.0, done.1, done.2, done.3, done.4, done.5, done.7)
