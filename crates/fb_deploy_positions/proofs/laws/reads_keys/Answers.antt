use Rattle.fb_deploy_positions.proofs.lemmas.Keys.{entries_are_read, statements_are_read}
use Rattle.fb_deploy_positions.proofs.laws.reads_keys.Goals as goal

pub returns-clause-statements : goal.returns-clause-statements
returns-clause-statements c = statements_are_read

pub returns-clause-entries : goal.returns-clause-entries
returns-clause-entries c = entries_are_read
