use Rattle.fb_types.proofs.key.compare.Goals as goal

pub returns : goal.returns
returns c = c.cmp.ensures
