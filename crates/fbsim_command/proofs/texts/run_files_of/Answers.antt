use Rattle.std.proofs.Common.{refl}
use Rattle.fbsim_command.proofs.texts.run_files_of.Goals as goal

pub returns : goal.returns
returns c = refl
