use Rattle.fb_sim.proofs.rounds.all_rounds.write_unwritten.Goals as goal

pub returns-in-Ok-clause-whole : goal.returns-in-Ok-clause-whole
returns-in-Ok-clause-whole g c = (c.in-Ok.bytes, c.in-Ok.lines, c.in-Ok.ensures.whole, c.and.ensures)

pub returns-in-Err-clause-failed : goal.returns-in-Err-clause-failed
returns-in-Err-clause-failed g c = (c.in-Err.error, c.in-Err.ensures.failed, c.with_written.ensures)
