use Rattle.std.proofs.Common.{refl}
use Rattle.fb_inspect.proofs.walk.trail.Trail.forget.Goals as goal

pub returns-clause-others : goal.returns-clause-others
returns-clause-others c = refl
