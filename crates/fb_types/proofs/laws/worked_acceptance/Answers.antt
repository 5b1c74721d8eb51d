use Rattle.fb_types.proofs.lemmas.examples.ExamplesAccepted.{accepted-examples}
use Rattle.fb_types.proofs.laws.worked_acceptance.Goals as goal

pub returns : goal.returns
returns c = accepted-examples
