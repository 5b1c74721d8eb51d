use Rattle.fb_read.proofs.lemmas.Common.{refl, err_from_is_err_and, expect}
use Rattle.fb_read.proofs.lemmas.rules.Reading.{stops, went_on}
use Rattle.fb_read.proofs.rule.ended.Goals as goal

pub returns-in_err-expect : goal.returns-in_err-expect
unfolding expect
returns-in_err-expect g c =
    let p = err_from_is_err_and c.from_residual.result c.from_residual.ensures.1 in
    rw (p.1, p.2) (stops _ _ _ _ c.in_err-expect.ensures)

pub returns : goal.returns
unfolding expect
returns g c = went_on _ _ _ _ _ c.in_ok-expect.ensures refl
