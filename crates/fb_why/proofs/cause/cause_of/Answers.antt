use Rattle.fb_why.proofs.cause.cause_of.Goals as goal

pub returns-in-24 : goal.returns-in-24
returns-in-24 c = c.in-24.is
