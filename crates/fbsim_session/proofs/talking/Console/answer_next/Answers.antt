use Rattle.std.proofs.KnownBytes.{Keeps-refl}
use Rattle.std.proofs.Common.{Ok}
use Rattle.fbsim_session.specs.Talks.{spoken}
use Rattle.fbsim_session.proofs.lemmas.Telling.{arrives_lost, arrives_passed, fails_here, leads_sent, same, unsent}
use Rattle.fbsim_session.proofs.talking.Console.answer_next.Goals as goal

pub returns-in-Ok-Whole : goal.returns-in-Ok-Whole
returns-in-Ok-Whole g c = c.obey.ensures

pub returns-in-Err : goal.returns-in-Err
returns-in-Err g c = λ x h. fails_here x _ _ h _ c.in-Err.fault c.in-Err.ensures (Keeps-refl _)

pub returns-in_err-outcome-in-Ok-Over : goal.returns-in_err-outcome-in-Ok-Over
returns-in_err-outcome-in-Ok-Over g c = λ x h.
    arrives_passed x _ _ c.in_err-outcome-in-Ok-Over.field-0.0 c.from_residual-in_err-outcome-in-Ok-Over.result c.from_residual-in_err-outcome-in-Ok-Over.ensures.1
    (c.in_err-outcome-in-Ok-Over.ensures x h)

pub returns-in_err-error-in-Ok-Long : goal.returns-in_err-error-in-Ok-Long
returns-in_err-error-in-Ok-Long g c = λ x h. arrives_lost x _ _ h _ c.from_residual.result c.from_residual.ensures.1

pub returns-in_err-send-in-Ok-Long : goal.returns-in_err-send-in-Ok-Long
returns-in_err-send-in-Ok-Long g c = λ x h.
    arrives_passed x _ _ c.in_err-send-in-Ok-Long.field-0.0 c.from_residual-in_err-send-in-Ok-Long.result c.from_residual-in_err-send-in-Ok-Long.ensures.1
    (unsent x _ _ (same x _ _ h _ c.in_ok-error-in-Ok-Long.ensures) (spoken c.send.new.self) _ _ c.in_err-send-in-Ok-Long.ensures.sends)

pub returns-in_ok-send-in-Ok-Long : goal.returns-in_ok-send-in-Ok-Long
returns-in_ok-send-in-Ok-Long g c = λ x h.
    leads_sent x _ _ (same x _ _ h _ c.in_ok-error-in-Ok-Long.ensures) _ _ (Ok tt) c.in_ok-send-in-Ok-Long.ensures.sends
