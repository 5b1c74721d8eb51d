use Rattle.std.proofs.Common.{Ok}
use Rattle.fbsim_session.specs.Talks.{spoken}
use Rattle.fbsim_session.proofs.lemmas.Telling.{arrives_lost, arrives_passed, leads_sent, same, unsent}
use Rattle.fbsim_session.proofs.talking.Console.end.Goals as goal

pub returns-in_err-number : goal.returns-in_err-number
returns-in_err-number g c = λ x h. arrives_lost x _ _ h _ c.from_residual.result c.from_residual.ensures.1

pub returns-in_err-send : goal.returns-in_err-send
returns-in_err-send g c = λ x h.
    arrives_passed x _ _ c.in_err-send.field-0.0 c.from_residual-in_err-send.result c.from_residual-in_err-send.ensures.1
    (unsent x _ _ (same x _ _ h _ c.in_ok-number.ensures) (spoken c.send.new.self) _ _ c.in_err-send.ensures.sends)

pub returns-then-tick-least : goal.returns-then-tick-least
returns-then-tick-least g c = λ x h.
    leads_sent x _ _ (same x _ _ h _ c.in_ok-number.ensures) _ _ (Ok tt) c.in_ok-send.ensures.sends

pub returns-in_err-say_stop : goal.returns-in_err-say_stop
returns-in_err-say_stop g c = λ x h.
    arrives_passed x _ _ c.in_err-say_stop.field-0.0 c.from_residual-in_err-say_stop.result c.from_residual-in_err-say_stop.ensures.1 (c.in_err-say_stop.ensures.leads x h)

pub finish-requires-clause-told : goal.finish-requires-clause-told
finish-requires-clause-told g c = let t = c.requires.told in (t.0, c.in_ok-say_stop.ensures.leads t.0 t.1)

pub returns-in_err-outcome : goal.returns-in_err-outcome
returns-in_err-outcome g c = λ x h.
    arrives_passed x _ _ c.in_err-outcome.field-0.0 c.from_residual-in_err-outcome.result c.from_residual-in_err-outcome.ensures.1
    (c.in_err-outcome.ensures x (c.in_ok-say_stop.ensures.leads x h))

pub returns : goal.returns
returns g c = λ x h. c.in_ok-outcome.ensures x (c.in_ok-say_stop.ensures.leads x h)
