use Rattle.fb_read.proofs.lemmas.Common.{err_from_is_err_and, if_statement}
use Rattle.fb_read.proofs.lemmas.rules.Reading.{goes_on, stops, stops_later}
use Rattle.fb_read.proofs.statement.StatementRules.if_statement.Goals as goal

pub returns-in_err-choices : goal.returns-in_err-choices
unfolding if_statement
returns-in_err-choices g c =
    let p = err_from_is_err_and c.from_residual.result c.from_residual.ensures.1 in
    rw (p.1, p.2) (stops _ _ _ _ c.in_err-choices.ensures)

pub returns-in_err-others : goal.returns-in_err-others
unfolding if_statement
returns-in_err-others g c =
    let p = err_from_is_err_and c.from_residual-in_err-others.result c.from_residual-in_err-others.ensures.1 in
    rw (p.1, p.2) (stops_later _ _ _ _ _ _ c.in_ok-choices.ensures (stops _ _ _ _ c.in_err-others.ensures))

pub returns : goal.returns
unfolding if_statement
returns g c = goes_on _ _ _ _ _ _ c.in_ok-choices.ensures (goes_on _ _ _ _ _ _ c.in_ok-others.ensures c.finished.ensures)
