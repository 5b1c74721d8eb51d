use Rattle.fb_read.proofs.lemmas.tokens.PauseLaws.{skips-exactly}
use Rattle.fb_read.proofs.laws.skips_exactly.Goals as goal

pub returns : goal.returns
returns c = skips-exactly
