use Rattle.fb_sim.proofs.lemmas.rounds.RoundIs.{opened_come}
use Rattle.fb_sim.proofs.runs.open_core.Goals as goal

pub returns : goal.returns
returns c = opened_come c.args.system.now c.args.steps c.open.result c.open.ensures.system c.open.ensures.steps c.open.ensures.at c.open.ensures.left
