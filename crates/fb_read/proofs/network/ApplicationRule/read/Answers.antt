use Rattle.fb_read.proofs.lemmas.Common.{err_from_is_err_and, application}
use Rattle.fb_read.proofs.lemmas.rules.Reading.{goes_on, stops, stops_later}
use Rattle.fb_read.proofs.network.ApplicationRule.read.Goals as goal

pub returns-in_err-expect : goal.returns-in_err-expect
unfolding application
returns-in_err-expect c =
    let p = err_from_is_err_and c.from_residual.result c.from_residual.ensures.1 in
    rw (p.1, p.2) (stops _ _ _ _ c.in_err-expect.ensures)

pub returns-in_err-name : goal.returns-in_err-name
unfolding application
returns-in_err-name c =
    let p = err_from_is_err_and c.from_residual-in_err-name.result c.from_residual-in_err-name.ensures.1 in
    rw (p.1, p.2) (stops_later _ _ _ _ _ _ c.in_ok-expect.ensures (stops _ _ _ _ c.in_err-name.ensures))

pub returns-in_err-network : goal.returns-in_err-network
unfolding application
returns-in_err-network c =
    let p = err_from_is_err_and c.from_residual-in_err-network.result c.from_residual-in_err-network.ensures.1 in
    rw (p.1, p.2) (stops_later _ _ _ _ _ _ c.in_ok-expect.ensures (stops_later _ _ _ _ _ _ c.in_ok-name.ensures (stops _ _ _ _ c.in_err-network.ensures)))

pub returns : goal.returns
unfolding application
returns c = goes_on _ _ _ _ _ _ c.in_ok-expect.ensures (goes_on _ _ _ _ _ _ c.in_ok-name.ensures (goes_on _ _ _ _ _ _ c.in_ok-network.ensures c.ended.ensures))
