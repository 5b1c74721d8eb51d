use Rattle.fb_inputs.proofs.lemmas.deployments.DeployDocumentLaws.{reads-documents}
use Rattle.fb_inputs.proofs.laws.reads_documents.Goals as goal

pub returns : goal.returns
returns c = reads-documents
