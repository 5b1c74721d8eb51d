use Rattle.std.proofs.Common.{refl}
use Rattle.fb_wave.proofs.current_line.CurrentLine.follow.Goals as goal

pub returns : goal.returns
returns c = refl
