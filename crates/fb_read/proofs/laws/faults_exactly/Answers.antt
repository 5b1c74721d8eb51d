use Rattle.fb_read.proofs.lemmas.texts.FaultLaws.{faults-exactly}
use Rattle.fb_read.proofs.laws.faults_exactly.Goals as goal

pub returns : goal.returns
returns c = faults-exactly
