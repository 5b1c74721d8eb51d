use Rattle.fb_check.proofs.lemmas.types.AllUnknown.{there_unknown}
use Rattle.fb_check.proofs.types.laws.locations_are_all.Goals as goal

pub returns : goal.returns
returns c = there_unknown
