use Rattle.fb_types.proofs.lemmas.examples.Twice.{twice-trace}
use Rattle.fb_types.proofs.laws.worked_composite.Goals as goal

pub returns : goal.returns
returns c = twice-trace
