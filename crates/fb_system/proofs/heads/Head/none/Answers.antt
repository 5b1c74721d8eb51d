use Rattle.std.proofs.Common.{arith}
use Rattle.fb_system.proofs.heads.Head.none.Goals as goal

pub returns-clause-unnamed : goal.returns-clause-unnamed
returns-clause-unnamed c = omega arith
