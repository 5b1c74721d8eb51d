use Rattle.fb_trace.proofs.number.LastNumber.renew.Goals as goal

pub returns : goal.returns
returns c = c.of.ensures
