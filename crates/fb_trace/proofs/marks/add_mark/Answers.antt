use Rattle.fb_trace.proofs.marks.add_mark.Goals as goal

pub returns : goal.returns
returns c = c.in_ok-push.ensures.items
