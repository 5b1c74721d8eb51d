use Rattle.fb_types.proofs.Common.{refl, err_from_is_err_and}
use Rattle.fb_read.specs.Parser.{then_read}
use Rattle.fb_read.proofs.lemmas.rules.Reading.{stops, stops_later, went_on}
use Rattle.fb_read.proofs.rule.then_read.Goals as goal

pub returns-in_err-expect : goal.returns-in_err-expect
unfolding then_read
returns-in_err-expect g c =
    let p = err_from_is_err_and c.from_residual.result c.from_residual.ensures.1 in
    rw (p.1, p.2) (stops _ _ _ _ c.in_err-expect.ensures)

pub returns-in_err-read : goal.returns-in_err-read
unfolding then_read
returns-in_err-read g c =
    let p = err_from_is_err_and c.from_residual-in_err-read.result c.from_residual-in_err-read.ensures.1 in
    rw (p.1, p.2) (stops_later _ _ _ _ _ _ c.in_ok-expect.ensures (stops _ _ _ _ c.in_err-read.ensures))

pub returns : goal.returns
unfolding then_read
returns g c = went_on _ _ _ _ _ c.in_ok-expect.ensures (went_on _ _ _ _ _ c.in_ok-read.ensures refl)
