use Rattle.std.proofs.Common.{refl}
use Rattle.fb_net.proofs.laws.given_rows_mean_alone.Goals as goal

pub returns : goal.returns
returns c = λ i more g. refl
