use Rattle.std.proofs.Common.{◌∙◌, sym}
use Rattle.fb_sim.proofs.lemmas.rounds.AdvanceIs.{unfinished}
use Rattle.fb_sim.proofs.lemmas.runs.SimulationFields.{seen}
use Rattle.fb_sim.proofs.simulation.Simulation.finish.Goals as goal

pub returns-in_err-close-in-Running : goal.returns-in_err-close-in-Running
returns-in_err-close-in-Running g c =
    unfinished (seen c.self.inside) c.args.self c.self.view_is (sym c.stage.ensures ∙ c.in-Running.is) (g.W.Write.contents c.args.out.now) (g.W.Write.contents c.close.new.out) c.in_err-close-in-Running.field-0.0 c.in_err-close-in-Running.ensures.part
    c.from_residual.result c.from_residual.ensures.1
