use Rattle.fb_read.proofs.lemmas.tokens.DurationLaws.{durations-exactly}
use Rattle.fb_read.proofs.laws.durations_exactly.Goals as goal

pub returns : goal.returns
returns c = durations-exactly
