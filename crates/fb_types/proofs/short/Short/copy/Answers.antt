use Rattle.fb_types.proofs.short.Short.copy.Goals as goal

pub returns : goal.returns
returns c = c.self.view_is
