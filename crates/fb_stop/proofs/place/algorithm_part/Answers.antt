use Rattle.fb_stop.proofs.place.algorithm_part.Goals as goal

pub returns-in-Some-clause-found : goal.returns-in-Some-clause-found
returns-in-Some-clause-found c = record { index = c.in-Some.index; there = c.in-Some.ensures.found; is = c.statement_part.ensures }
