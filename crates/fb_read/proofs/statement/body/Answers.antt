use Rattle.fb_read.proofs.lemmas.Common.{err_from_is_err_and, body}
use Rattle.fb_read.proofs.lemmas.rules.Reading.{goes_on, stops}
use Rattle.fb_read.proofs.statement.body.Goals as goal

pub returns-in_err-statements : goal.returns-in_err-statements
unfolding body
returns-in_err-statements c =
    let p = err_from_is_err_and c.from_residual.result c.from_residual.ensures.1 in
    rw (p.1, p.2) (stops _ _ _ _ c.in_err-statements.ensures)

pub returns : goal.returns
unfolding body
returns c = goes_on _ _ _ _ _ _ c.in_ok-statements.ensures c.ended.ensures
