use Rattle.fb_deploy_positions.proofs.lemmas.Documents.{defines_documents}
use Rattle.fb_deploy_positions.proofs.laws.defines_documents.Goals as goal

pub returns : goal.returns
returns c = defines_documents
