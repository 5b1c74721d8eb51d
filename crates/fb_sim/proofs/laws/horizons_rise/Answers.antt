use Rattle.fb_sim.proofs.lemmas.runs.ViewIs.{come_later}
use Rattle.fb_sim.proofs.laws.horizons_rise.Goals as goal

pub returns : goal.returns
returns c = λ i good limit t u later core ls come at. come_later i good limit t u later core ls come at
