use Rattle.fb_check.proofs.lemmas.types.UnknownApplies.{unknown_applies}
use Rattle.fb_check.proofs.types.laws.locations_apply.Goals as goal

pub returns : goal.returns
returns c = unknown_applies
