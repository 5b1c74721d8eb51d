use Rattle.fb_types.proofs.lemmas.examples.Cycle.{cycle-trace}
use Rattle.fb_types.proofs.laws.worked_cycle.Goals as goal

pub returns : goal.returns
returns c = cycle-trace
