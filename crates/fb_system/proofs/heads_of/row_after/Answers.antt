use Rattle.fb_system.proofs.heads_of.row_after.Goals as goal

pub returns : goal.returns
returns c = c.min.ensures
