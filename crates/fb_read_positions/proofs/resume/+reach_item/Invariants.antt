use Rattle.fb_read_positions.specs.Lists.{depth_of}
use Rattle.fb_read_positions.proofs.resume.+reach_item.Given as goal

abbrev pub decreases-reach_item : goal.decreases-reach_item
decreases-reach_item l = depth_of l.item
