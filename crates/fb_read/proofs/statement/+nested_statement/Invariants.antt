use Rattle.fb_read.proofs.statement.+nested_statement.Given as goal

abbrev pub decreases-nested_statement : goal.decreases-nested_statement
decreases-nested_statement l = l.depth
