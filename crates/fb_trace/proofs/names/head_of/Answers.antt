use Rattle.std.proofs.Common.{refl}
use Rattle.fb_trace.proofs.names.head_of.Goals as goal

pub returns : goal.returns
returns c = refl
