use Rattle.fb_read.proofs.lemmas.tokens.CutLaws.{cuts-exactly}
use Rattle.fb_read.proofs.laws.cuts_exactly.Goals as goal

pub returns : goal.returns
returns c = cuts-exactly
