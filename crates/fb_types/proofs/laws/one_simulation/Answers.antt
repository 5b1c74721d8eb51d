use Rattle.fb_types.proofs.lemmas.determined.SimulationLaws.{one-simulation}
use Rattle.fb_types.proofs.laws.one_simulation.Goals as goal

pub returns : goal.returns
returns c = one-simulation
