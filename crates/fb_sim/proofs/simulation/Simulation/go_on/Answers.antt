use Rattle.fb_sim.proofs.lemmas.Common.{◌∙◌, ap, sym, SimulationView}
use Rattle.fb_sim.proofs.lemmas.runs.SimulationFields.{has_core}
use Rattle.fb_sim.proofs.simulation.Simulation.go_on.Goals as goal

pub unreachable-requires : goal.unreachable-requires
unreachable-requires g c = has_core c.self.inside.state (ap (λ (s : SimulationView). s.stage) c.self.view_is ∙ c.requires.running) (sym c.take.ensures.core ∙ c.in-None.is)
