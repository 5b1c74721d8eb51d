use Rattle.fb_agenda.proofs.timer_row.Timed.key.Goals as goal

pub returns : goal.returns
returns c = c.timer.ensures
