use Rattle.std.proofs.Common.{refl}
use Rattle.fb_read.proofs.front.whole.Goals as goal

pub returns-in-Some-clause-value : goal.returns-in-Some-clause-value
returns-in-Some-clause-value c = rw (c.in-Some.is, c.new.ensures) refl

pub returns-in-Some-clause-same_len : goal.returns-in-Some-clause-same_len
returns-in-Some-clause-same_len c = refl
