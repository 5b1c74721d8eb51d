use Rattle.std.proofs.Common.{refl}
use Rattle.fb_inspect.proofs.walk.reading.Reading.put_back.Goals as goal

pub returns : goal.returns
returns c = refl
