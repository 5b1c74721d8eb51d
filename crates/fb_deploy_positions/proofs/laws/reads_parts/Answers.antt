use Rattle.fb_deploy_positions.proofs.lemmas.Parts.{reads_elements, reads_members}
use Rattle.fb_deploy_positions.proofs.laws.reads_parts.Goals as goal

pub returns-clause-elements : goal.returns-clause-elements
returns-clause-elements c = reads_elements

pub returns-clause-members : goal.returns-clause-members
returns-clause-members c = reads_members
