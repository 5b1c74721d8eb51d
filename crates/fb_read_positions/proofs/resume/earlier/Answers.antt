use Rattle.fb_read_positions.proofs.resume.earlier.Goals as goal

pub returns-in-Some-clause-ahead : goal.returns-in-Some-clause-ahead
returns-in-Some-clause-ahead c = record { list_is = c.is_same.ensures c.if-is_same.true; below = c.if-from-item.true }
