use Rattle.std.proofs.Common.{refl}
use Rattle.fb_coverage.proofs.share.Share.new.Goals as goal

pub returns : goal.returns
returns c = refl
