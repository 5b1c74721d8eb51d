use Rattle.std.proofs.Common.{Ok}
use Rattle.fbsim_session.specs.Talks.{spoken}
use Rattle.fbsim_session.proofs.lemmas.Telling.{leads_lost, leads_passed, leads_sent, unsent}
use Rattle.fbsim_session.proofs.talking.Console.list_rows.Goals as goal

pub loop-row-init : goal.loop-row-init
loop-row-init g c = λ x h. h

pub returns-in_err-line : goal.returns-in_err-line
returns-in_err-line g c = λ x h. leads_lost x _ _ (c.loop-row.invariant x h) _ c.from_residual.result c.from_residual.ensures.1

pub returns-in_err-put_row : goal.returns-in_err-put_row
returns-in_err-put_row g c = λ x h. leads_lost x _ _ (c.loop-row.invariant x h) _ c.from_residual-in_err-put_row.result c.from_residual-in_err-put_row.ensures.1

pub returns-in_err-send : goal.returns-in_err-send
returns-in_err-send g c = λ x h.
    leads_passed x _ _ c.in_err-send.field-0.0 c.from_residual-in_err-send.result c.from_residual-in_err-send.ensures.1
    (unsent x _ _ (c.loop-row.invariant x h) (spoken c.send.new.self) _ _ c.in_err-send.ensures.sends)

pub loop-row-preserved : goal.loop-row-preserved
loop-row-preserved g c = λ x h. leads_sent x _ _ (c.loop-row.invariant x h) _ _ (Ok tt) c.in_ok-send.ensures.sends

pub returns : goal.returns
returns g c = λ x h. c.loop-row.invariant x h
