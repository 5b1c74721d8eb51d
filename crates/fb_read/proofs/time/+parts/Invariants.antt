use Rattle.std.proofs.Common.{length}
use Rattle.fb_read.proofs.time.+parts.Given as goal

abbrev pub decreases-parts : goal.decreases-parts
decreases-parts l = length l.units.now
