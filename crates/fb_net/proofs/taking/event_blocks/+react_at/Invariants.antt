use Rattle.std.proofs.Common.{length}
use Rattle.fb_net.proofs.taking.event_blocks.+react_at.Given as goal

abbrev pub decreases-react_at : goal.decreases-react_at
decreases-react_at l = length l.below.now
