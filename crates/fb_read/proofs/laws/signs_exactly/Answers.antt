use Rattle.fb_read.proofs.lemmas.tokens.SignLaws.{signs-exactly}
use Rattle.fb_read.proofs.laws.signs_exactly.Goals as goal

pub returns : goal.returns
returns c = signs-exactly
