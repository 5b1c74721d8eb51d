use Rattle.std.proofs.Common.{length}
use Rattle.fb_net.proofs.taking.event_blocks.+expire_at.Given as goal

abbrev pub decreases-expire_at : goal.decreases-expire_at
decreases-expire_at l = length l.below.now
