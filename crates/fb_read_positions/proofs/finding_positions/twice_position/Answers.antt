use Rattle.std.proofs.Common.{sym, ap}
use Rattle.fb_read_positions.specs.FindingPositions.{twice_position}
use Rattle.fb_read_positions.proofs.finding_positions.twice_position.Goals as goal

pub returns-in-Type : goal.returns-in-Type
returns-in-Type c = sym (ap (twice_position c.args.library.now) c.in-Type.is)
