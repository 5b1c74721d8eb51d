use Rattle.std.proofs.Common.{refl}
use Rattle.fb_coverage.proofs.marks.ChartMarks.mark_lost.Goals as goal

pub returns : goal.returns
returns c = refl
