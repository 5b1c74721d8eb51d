use Rattle.fb_agenda.proofs.arrivals.key_of_arrival.Goals as goal

pub returns : goal.returns
returns c = c.arrival.ensures
