use Rattle.std.proofs.Common.{refl}
use Rattle.fb_expect.proofs.port_set.everything.Goals as goal

pub returns : goal.returns
returns c = refl
