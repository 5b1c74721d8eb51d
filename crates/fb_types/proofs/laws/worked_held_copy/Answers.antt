use Rattle.fb_types.proofs.lemmas.examples.HeldCopy.{held-copy-trace}
use Rattle.fb_types.proofs.laws.worked_held_copy.Goals as goal

pub returns : goal.returns
returns c = held-copy-trace
