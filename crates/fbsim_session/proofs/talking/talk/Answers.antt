use Rattle.fb_laws.specs.Sound.{AreGood}
use Rattle.fbsim_session.proofs.lemmas.Telling.{concludes_lost}
use Rattle.fbsim_session.proofs.talking.talk.Goals as goal

pub returns-in_err-interfaces : goal.returns-in_err-interfaces
returns-in_err-interfaces g c =
    let i = c.args.system.now in
    let good : AreGood i = record { accepted = c.facts.ensures.accepted; limits = c.facts.ensures.limits } in
    concludes_lost (record { inputs = i; steps = c.args.steps; form = c.args.form; start = g.W.Write.contents c.args.out.now }) good c.from_residual.result c.from_residual.ensures.1
