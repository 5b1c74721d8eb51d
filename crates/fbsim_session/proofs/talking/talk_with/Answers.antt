use Rattle.fb_laws.specs.Sound.{AreGood}
use Rattle.fbsim_session.proofs.lemmas.Telling.{concludes_lost}
use Rattle.fbsim_session.proofs.talking.talk_with.Goals as goal

pub returns-in_err-judge : goal.returns-in_err-judge
returns-in_err-judge g c =
    let i = c.args.system.now in
    let o = c.args.options in
    let good : AreGood i = record { accepted = c.facts.ensures.accepted; limits = c.facts.ensures.limits } in
    concludes_lost (record { inputs = i; steps = o.steps; form = o.form; start = g.W.Write.contents c.args.out.now }) good c.from_residual.result c.from_residual.ensures.1
