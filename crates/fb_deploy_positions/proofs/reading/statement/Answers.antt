use Rattle.std.proofs.Common.{rules}
use Rattle.fb_deploy_positions.specs.Statements.{statement}
use Rattle.fb_deploy_positions.proofs.reading.statement.Goals as goal

pub returns-then-byte_at-eq91-clause-value : goal.returns-then-byte_at-eq91-clause-value
unfolding statement
returns-then-byte_at-eq91-clause-value c = search rules

pub returns-then-first-eq91-2-clause-value : goal.returns-then-first-eq91-2-clause-value
unfolding statement
returns-then-first-eq91-2-clause-value c = search rules

pub returns-else-first-eq91-2-clause-value : goal.returns-else-first-eq91-2-clause-value
unfolding statement
returns-else-first-eq91-2-clause-value c = search rules
