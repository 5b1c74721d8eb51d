use Rattle.fb_read.proofs.lemmas.Common.{refl, err_from_is_err_and, while_statement}
use Rattle.fb_read.proofs.lemmas.rules.Reading.{stops, stops_later, went_on}
use Rattle.fb_read.proofs.statement.StatementRules.while_statement.Goals as goal

pub returns-in_err-condition : goal.returns-in_err-condition
unfolding while_statement
returns-in_err-condition g c =
    let p = err_from_is_err_and c.from_residual.result c.from_residual.ensures.1 in
    rw (p.1, p.2) (stops _ _ _ _ c.in_err-condition.ensures)

pub returns-in_err-body : goal.returns-in_err-body
unfolding while_statement
returns-in_err-body g c =
    let p = err_from_is_err_and c.from_residual-in_err-body.result c.from_residual-in_err-body.ensures.1 in
    rw (p.1, p.2) (stops_later _ _ _ _ _ _ c.in_ok-condition.ensures (stops _ _ _ _ c.in_err-body.ensures))

pub returns : goal.returns
unfolding while_statement
returns g c = went_on _ _ _ _ _ c.in_ok-condition.ensures (went_on _ _ _ _ _ c.in_ok-body.ensures refl)
