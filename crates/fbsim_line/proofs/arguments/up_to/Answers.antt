use Rattle.std.proofs.Common.{refl}
use Rattle.fbsim_line.proofs.arguments.up_to.Goals as goal

pub returns : goal.returns
returns c = refl
