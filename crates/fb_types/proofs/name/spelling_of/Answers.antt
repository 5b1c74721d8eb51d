use Rattle.std.proofs.Common.{arith}
use Rattle.fb_types.proofs.name.spelling_of.Goals as goal

pub from_slice-requires : goal.from_slice-requires
from_slice-requires c = omega arith
