use Rattle.std.proofs.Common.{ap, ◌∙◌}
use Rattle.fbsim_session.specs.Talks.{Spoken}
use Rattle.fbsim_session.proofs.lemmas.Telling.{leads_lost, leads_sent, same}
use Rattle.fbsim_session.proofs.talking.Console.say_stop.Goals as goal

pub returns-in_err-number : goal.returns-in_err-number
returns-in_err-number g c = record { leads = λ x h. leads_lost x _ _ h _ c.from_residual.result c.from_residual.ensures.1; same = ap (λ (t : Spoken). t.session) c.in_err-number.ensures }

pub returns : goal.returns
returns g c = record {
  leads = λ x h. leads_sent x _ _ (same x _ _ h _ c.in_ok-number.ensures) _ _ c.send.result c.send.ensures.sends;
  same = c.send.ensures.same ∙ ap (λ (t : Spoken). t.session) c.in_ok-number.ensures;
}
