use Rattle.fb_read.proofs.lemmas.Common.{refl, err_from_is_err_and, ports}
use Rattle.fb_read.proofs.lemmas.rules.Reading.{stops, stops_later, went_on}
use Rattle.fb_read.proofs.ports.PortsRule.read.Goals as goal

pub returns-in_err-event_inputs : goal.returns-in_err-event_inputs
unfolding ports
returns-in_err-event_inputs c =
    let p = err_from_is_err_and c.from_residual.result c.from_residual.ensures.1 in
    rw (p.1, p.2) (stops _ _ _ _ c.in_err-event_inputs.ensures)

pub returns-in_err-event_outputs : goal.returns-in_err-event_outputs
unfolding ports
returns-in_err-event_outputs c =
    let p = err_from_is_err_and c.from_residual-in_err-event_outputs.result c.from_residual-in_err-event_outputs.ensures.1 in
    rw (p.1, p.2) (stops_later _ _ _ _ _ _ c.in_ok-event_inputs.ensures (stops _ _ _ _ c.in_err-event_outputs.ensures))

pub returns-in_err-inputs : goal.returns-in_err-inputs
unfolding ports
returns-in_err-inputs c =
    let p = err_from_is_err_and c.from_residual-in_err-inputs.result c.from_residual-in_err-inputs.ensures.1 in
    rw (p.1, p.2) (stops_later _ _ _ _ _ _ c.in_ok-event_inputs.ensures (stops_later _ _ _ _ _ _ c.in_ok-event_outputs.ensures (stops _ _ _ _ c.in_err-inputs.ensures)))

pub returns-in_err-outputs : goal.returns-in_err-outputs
unfolding ports
returns-in_err-outputs c =
    let p = err_from_is_err_and c.from_residual-in_err-outputs.result c.from_residual-in_err-outputs.ensures.1 in
    rw (p.1, p.2) (stops_later _ _ _ _ _ _ c.in_ok-event_inputs.ensures (stops_later _ _ _ _ _ _ c.in_ok-event_outputs.ensures (stops_later _ _ _ _ _ _ c.in_ok-inputs.ensures (stops _ _ _ _ c.in_err-outputs.ensures))))

pub returns : goal.returns
unfolding ports
returns c = went_on _ _ _ _ _ c.in_ok-event_inputs.ensures (went_on _ _ _ _ _ c.in_ok-event_outputs.ensures (went_on _ _ _ _ _ c.in_ok-inputs.ensures (went_on _ _ _ _ _ c.in_ok-outputs.ensures refl)))
