use Rattle.std.proofs.Common.{refl}
use Rattle.fb_read.proofs.read.error_for.Goals as goal

pub returns-in-Nesting : goal.returns-in-Nesting
returns-in-Nesting c = rw c.in-Nesting.is refl
