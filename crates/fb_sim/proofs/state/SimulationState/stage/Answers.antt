use Rattle.std.proofs.Common.{ap, sym}
use Rattle.fb_sim.specs.Views.{stage_of}
use Rattle.fb_sim.proofs.state.SimulationState.stage.Goals as goal

pub returns-in-Stopped : goal.returns-in-Stopped
returns-in-Stopped c = sym (ap stage_of c.in-Stopped.is)
