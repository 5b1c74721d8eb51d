use Rattle.fb_deploy_positions.proofs.lemmas.Offsets.{elements_are_ends, entries_have_ends, statements_have_ends}
use Rattle.fb_deploy_positions.proofs.laws.begins_at_offsets.Goals as goal

pub returns-clause-statements : goal.returns-clause-statements
returns-clause-statements c = statements_have_ends

pub returns-clause-elements : goal.returns-clause-elements
returns-clause-elements c = elements_are_ends

pub returns-clause-entries : goal.returns-clause-entries
returns-clause-entries c = entries_have_ends
