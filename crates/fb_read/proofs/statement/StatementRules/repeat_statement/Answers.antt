use Rattle.fb_read.proofs.lemmas.Common.{err_from_is_err_and, repeat_statement}
use Rattle.fb_read.proofs.lemmas.rules.Reading.{goes_on, stops, stops_later}
use Rattle.fb_read.proofs.statement.StatementRules.repeat_statement.Goals as goal

pub returns-in_err-body : goal.returns-in_err-body
unfolding repeat_statement
returns-in_err-body g c =
    let p = err_from_is_err_and c.from_residual.result c.from_residual.ensures.1 in
    rw (p.1, p.2) (stops _ _ _ _ c.in_err-body.ensures)

pub returns-in_err-expect : goal.returns-in_err-expect
unfolding repeat_statement
returns-in_err-expect g c =
    let p = err_from_is_err_and c.from_residual-in_err-expect.result c.from_residual-in_err-expect.ensures.1 in
    rw (p.1, p.2) (stops_later _ _ _ _ _ _ c.in_ok-body.ensures (stops _ _ _ _ c.in_err-expect.ensures))

pub returns-in_err-condition : goal.returns-in_err-condition
unfolding repeat_statement
returns-in_err-condition g c =
    let p = err_from_is_err_and c.from_residual-in_err-condition.result c.from_residual-in_err-condition.ensures.1 in
    rw (p.1, p.2) (stops_later _ _ _ _ _ _ c.in_ok-body.ensures (stops_later _ _ _ _ _ _ c.in_ok-expect.ensures (stops _ _ _ _ c.in_err-condition.ensures)))

pub returns : goal.returns
unfolding repeat_statement
returns g c = goes_on _ _ _ _ _ _ c.in_ok-body.ensures (goes_on _ _ _ _ _ _ c.in_ok-expect.ensures (goes_on _ _ _ _ _ _ c.in_ok-condition.ensures c.finished.ensures))
