use Rattle.fb_read.proofs.expression.+nested_expression.Given as goal

abbrev pub decreases-nested_expression : goal.decreases-nested_expression
decreases-nested_expression l = l.depth
