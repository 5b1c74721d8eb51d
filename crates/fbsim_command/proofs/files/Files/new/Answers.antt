use Rattle.std.proofs.Common.{refl}
use Rattle.fbsim_command.proofs.files.Files.new.Goals as goal

pub returns : goal.returns
returns g c = refl
