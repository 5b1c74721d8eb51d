use Rattle.fb_stop.proofs.number.next.Goals as goal

pub returns : goal.returns
returns c = c.saturating_add.ensures
