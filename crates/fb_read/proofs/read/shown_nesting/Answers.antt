use Rattle.std.proofs.Common.{refl}
use Rattle.fb_read.proofs.read.shown_nesting.Goals as goal

pub refused_nesting-requires-clause-deep : goal.refused_nesting-requires-clause-deep
refused_nesting-requires-clause-deep c = let h = rw (c.in-Some.is, c.front_of.ensures) at c.in_ok-read.ensures in h.0 refl
