use Rattle.fb_trace.proofs.start.append_bare.Goals as goal

pub returns : goal.returns
returns c = rw c.text-width.ensures.text at c.append_fronts.ensures
