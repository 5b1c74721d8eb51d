use Rattle.fb_types.proofs.lemmas.examples.LinkedEvent.{link-trace}
use Rattle.fb_types.proofs.laws.worked_link.Goals as goal

pub returns : goal.returns
returns c = link-trace
