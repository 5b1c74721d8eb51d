use Rattle.fb_read.proofs.read.error_of.Goals as goal

pub error_at-requires : goal.error_at-requires
error_at-requires c = rw c.in-Refused.is at c.requires

pub returns-in-Refused : goal.returns-in-Refused
returns-in-Refused c = rw c.in-Refused.is c.error_at.ensures
