use Rattle.fb_inspect.proofs.walk.ahead.keep_row.Goals as goal

pub returns : goal.returns
returns c = c.in_ok-push.ensures.items
