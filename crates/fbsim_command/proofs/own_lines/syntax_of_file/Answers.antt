use Rattle.fbsim_command.proofs.own_lines.syntax_of_file.Goals as goal

pub returns-in-Ok : goal.returns-in-Ok
returns-in-Ok c = c.in-Ok.ensures
