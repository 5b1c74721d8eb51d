use Rattle.fb_sim.proofs.lemmas.runs.Refused.{check_fault}
use Rattle.fb_sim.proofs.reading.open.Goals as goal

pub returns-in_default-clause-refused : goal.returns-in_default-clause-refused
returns-in_default-clause-refused c = check_fault c.args.inputs.now _ c.in-Err.error c.in_default.not-Memory c.in_ok-read.ensures.read c.in-Err.ensures.refused
