use Rattle.fb_read.proofs.lemmas.texts.WholeLaws.{declares-one}
use Rattle.fb_read.proofs.laws.declares_one.Goals as goal

pub returns : goal.returns
returns c = declares-one
