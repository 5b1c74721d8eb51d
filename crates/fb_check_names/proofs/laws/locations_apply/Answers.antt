use Rattle.fb_check_names.proofs.lemmas.numbers.Applying.{twice_applies}
use Rattle.fb_check_names.proofs.laws.locations_apply.Goals as goal

pub returns : goal.returns
returns c = twice_applies
