use Rattle.fbsim_command.proofs.lemmas.files.FileNames.{named_here}
use Rattle.fbsim_command.proofs.join.file_name.Goals as goal

pub returns-then-file-types : goal.returns-then-file-types
returns-then-file-types c = named_here c.args.types.now c.args.own.now c.args.file _ c.if-file-types.true
