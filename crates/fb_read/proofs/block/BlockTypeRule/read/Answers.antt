use Rattle.fb_read.proofs.lemmas.Common.{err_from_is_err_and, block}
use Rattle.fb_read.proofs.lemmas.rules.Reading.{goes_on, stops, stops_later}
use Rattle.fb_read.proofs.block.BlockTypeRule.read.Goals as goal

pub returns-in_err-expect : goal.returns-in_err-expect
unfolding block
returns-in_err-expect c =
    let p = err_from_is_err_and c.from_residual.result c.from_residual.ensures.1 in
    rw (p.1, p.2) (stops _ _ _ _ c.in_err-expect.ensures)

pub returns-in_err-found : goal.returns-in_err-found
unfolding block
returns-in_err-found c =
    let p = err_from_is_err_and c.from_residual-in_err-found.result c.from_residual-in_err-found.ensures.1 in
    rw (p.1, p.2) (stops_later _ _ _ _ _ _ c.in_ok-expect.ensures (stops _ _ _ _ c.in_err-found.ensures))

pub returns : goal.returns
unfolding block
returns c = goes_on _ _ _ _ _ _ c.in_ok-expect.ensures (goes_on _ _ _ _ _ _ c.in_ok-found.ensures c.ended.ensures)
