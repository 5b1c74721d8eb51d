use Rattle.fb_check.proofs.types.statements.push_part.Goals as goal

pub returns : goal.returns
returns c = c.push_unless.ensures
