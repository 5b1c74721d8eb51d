use Rattle.fb_read.proofs.lemmas.tokens.ShapeLaws.{numbers-exactly}
use Rattle.fb_read.proofs.laws.numbers_exactly.Goals as goal

pub returns : goal.returns
returns c = numbers-exactly
