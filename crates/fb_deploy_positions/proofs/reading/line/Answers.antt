use Rattle.std.proofs.Common.{rules}
use Rattle.fb_deploy_positions.specs.Statements.{line}
use Rattle.fb_deploy_positions.proofs.reading.line.Goals as goal

pub returns-in_default-clause-value : goal.returns-in_default-clause-value
unfolding line
returns-in_default-clause-value c = search rules

pub returns-then-ends_line-clause-value : goal.returns-then-ends_line-clause-value
unfolding line
returns-then-ends_line-clause-value c = search rules

pub returns-clause-value : goal.returns-clause-value
unfolding line
returns-clause-value c = search rules
