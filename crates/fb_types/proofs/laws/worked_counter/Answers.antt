use Rattle.fb_types.proofs.lemmas.examples.Counter.{counter-trace}
use Rattle.fb_types.proofs.laws.worked_counter.Goals as goal

pub returns : goal.returns
returns c = counter-trace
