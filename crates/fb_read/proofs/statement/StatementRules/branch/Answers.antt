use Rattle.fb_read.proofs.lemmas.Common.{refl, err_from_is_err_and, branch}
use Rattle.fb_read.proofs.lemmas.rules.Reading.{stops, stops_later, went_on}
use Rattle.fb_read.proofs.statement.StatementRules.branch.Goals as goal

pub returns-in_err-labels : goal.returns-in_err-labels
unfolding branch
returns-in_err-labels g c =
    let p = err_from_is_err_and c.from_residual.result c.from_residual.ensures.1 in
    rw (p.1, p.2) (stops _ _ _ _ c.in_err-labels.ensures)

pub returns-in_err-expect : goal.returns-in_err-expect
unfolding branch
returns-in_err-expect g c =
    let p = err_from_is_err_and c.from_residual-in_err-expect.result c.from_residual-in_err-expect.ensures.1 in
    rw (p.1, p.2) (stops_later _ _ _ _ _ _ c.in_ok-labels.ensures (stops _ _ _ _ c.in_err-expect.ensures))

pub returns-in_err-body : goal.returns-in_err-body
unfolding branch
returns-in_err-body g c =
    let p = err_from_is_err_and c.from_residual-in_err-body.result c.from_residual-in_err-body.ensures.1 in
    rw (p.1, p.2) (stops_later _ _ _ _ _ _ c.in_ok-labels.ensures (stops_later _ _ _ _ _ _ c.in_ok-expect.ensures (stops _ _ _ _ c.in_err-body.ensures)))

pub returns : goal.returns
unfolding branch
returns g c = went_on _ _ _ _ _ c.in_ok-labels.ensures (went_on _ _ _ _ _ c.in_ok-expect.ensures (went_on _ _ _ _ _ c.in_ok-body.ensures refl))
