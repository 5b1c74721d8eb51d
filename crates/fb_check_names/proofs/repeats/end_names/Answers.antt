use Rattle.std.proofs.Common.{refl}
use Rattle.fb_check_names.proofs.repeats.end_names.Goals as goal

pub returns-in-Some : goal.returns-in-Some
returns-in-Some c = rw (c.in-Some.is) refl

pub returns-in-None : goal.returns-in-None
returns-in-None c = rw (c.in-None.is) refl
