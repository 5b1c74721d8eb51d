use Rattle.fb_read.proofs.lemmas.Common.{refl, err_from_is_err_and, algorithm}
use Rattle.fb_read.proofs.lemmas.rules.Reading.{stops, stops_later, went_on}
use Rattle.fb_read.proofs.chart.AlgorithmRule.read.Goals as goal

pub returns-in_err-expect : goal.returns-in_err-expect
unfolding algorithm
returns-in_err-expect c =
    let p = err_from_is_err_and c.from_residual.result c.from_residual.ensures.1 in
    rw (p.1, p.2) (stops _ _ _ _ c.in_err-expect.ensures)

pub returns-in_err-name : goal.returns-in_err-name
unfolding algorithm
returns-in_err-name c =
    let p = err_from_is_err_and c.from_residual-in_err-name.result c.from_residual-in_err-name.ensures.1 in
    rw (p.1, p.2) (stops_later _ _ _ _ _ _ c.in_ok-expect.ensures (stops _ _ _ _ c.in_err-name.ensures))

pub returns-in_err-body : goal.returns-in_err-body
unfolding algorithm
returns-in_err-body c =
    let p = err_from_is_err_and c.from_residual-in_err-body.result c.from_residual-in_err-body.ensures.1 in
    rw (p.1, p.2) (stops_later _ _ _ _ _ _ c.in_ok-expect.ensures (stops_later _ _ _ _ _ _ c.in_ok-name.ensures (stops _ _ _ _ c.in_err-body.ensures)))

pub returns : goal.returns
unfolding algorithm
returns c = went_on _ _ _ _ _ c.in_ok-expect.ensures (went_on _ _ _ _ _ c.in_ok-name.ensures (went_on _ _ _ _ _ c.in_ok-body.ensures refl))
