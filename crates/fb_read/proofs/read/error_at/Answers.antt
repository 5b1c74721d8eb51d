use Rattle.fb_read.proofs.read.error_at.Goals as goal

pub line_of-requires : goal.line_of-requires
line_of-requires c = let h = rw c.in-Syntax.is at c.requires in h.short
