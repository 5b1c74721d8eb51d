use Rattle.std.proofs.Common.{Ok}
use Rattle.fbsim_session.specs.Talks.{spoken}
use Rattle.fbsim_session.proofs.lemmas.Telling.{leads_lost, leads_passed, leads_sent, same, unsent}
use Rattle.fbsim_session.proofs.talking.Console.help.Goals as goal

pub loop-line-init : goal.loop-line-init
loop-line-init g c = λ x h. h

pub returns-in_err-put : goal.returns-in_err-put
returns-in_err-put g c = λ x h. leads_lost x _ _ (c.loop-line.invariant x h) _ c.from_residual.result c.from_residual.ensures.1

pub returns-in_err-send : goal.returns-in_err-send
returns-in_err-send g c = λ x h.
    leads_passed x _ _ c.in_err-send.field-0.0 c.from_residual-in_err-send.result c.from_residual-in_err-send.ensures.1
    (unsent x _ _ (same x _ _ (c.loop-line.invariant x h) _ c.in_ok-put.ensures) (spoken c.send.new.self) _ _ c.in_err-send.ensures.sends)

pub loop-line-preserved : goal.loop-line-preserved
loop-line-preserved g c = λ x h.
    leads_sent x _ _ (same x _ _ (c.loop-line.invariant x h) _ c.in_ok-put.ensures) _ _ (Ok tt) c.in_ok-send.ensures.sends

pub returns : goal.returns
returns g c = λ x h. c.loop-line.invariant x h
