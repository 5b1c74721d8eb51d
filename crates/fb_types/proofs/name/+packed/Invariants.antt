use Rattle.std.proofs.Common.{length}
use Rattle.fb_types.proofs.name.+packed.Given as goal

abbrev pub decreases-packed : goal.decreases-packed
decreases-packed l = length l.bytes.now
