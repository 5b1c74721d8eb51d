use Rattle.fb_check.proofs.lemmas.types.KindsApply.{kind_wrong_applies}
use Rattle.fb_check.proofs.types.kind_laws.locations_apply.Goals as goal

pub returns : goal.returns
returns c = kind_wrong_applies
