use Rattle.fb_read.proofs.lemmas.Common.{err_from_is_err_and, actions, state}
use Rattle.fb_read.specs.Parser.{listed}
use Rattle.fb_read.proofs.lemmas.rules.Reading.{goes_on, stops, stops_later}
use Rattle.fb_read.proofs.chart.StateRule.read.Goals as goal

pub returns-in_err-name : goal.returns-in_err-name
unfolding state actions listed
returns-in_err-name c =
    let p = err_from_is_err_and c.from_residual.result c.from_residual.ensures.1 in
    rw (p.1, p.2) (stops _ _ _ _ c.in_err-name.ensures)

pub returns-in_err-actions : goal.returns-in_err-actions
unfolding state actions listed
returns-in_err-actions c =
    let p = err_from_is_err_and c.from_residual-in_err-actions.result c.from_residual-in_err-actions.ensures.1 in
    rw (p.1, p.2) (stops_later _ _ _ _ _ _ c.in_ok-name.ensures (stops _ _ _ _ c.in_err-actions.ensures))

pub returns : goal.returns
unfolding state actions listed
returns c = goes_on _ _ _ _ _ _ c.in_ok-name.ensures (goes_on _ _ _ _ _ _ c.in_ok-actions.ensures c.ended.ensures)
