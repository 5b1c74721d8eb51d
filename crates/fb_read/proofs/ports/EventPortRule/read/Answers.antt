use Rattle.fb_read.proofs.lemmas.Common.{err_from_is_err_and, event, with_names}
use Rattle.fb_read.specs.Parser.{listed}
use Rattle.fb_read.proofs.lemmas.rules.Reading.{goes_on, stops, stops_later}
use Rattle.fb_read.proofs.ports.EventPortRule.read.Goals as goal

pub returns-in_err-name : goal.returns-in_err-name
unfolding event with_names listed
returns-in_err-name c =
    let p = err_from_is_err_and c.from_residual.result c.from_residual.ensures.1 in
    rw (p.1, p.2) (stops _ _ _ _ c.in_err-name.ensures)

pub returns-in_err-with : goal.returns-in_err-with
unfolding event with_names listed
returns-in_err-with c =
    let p = err_from_is_err_and c.from_residual-in_err-with.result c.from_residual-in_err-with.ensures.1 in
    rw (p.1, p.2) (stops_later _ _ _ _ _ _ c.in_ok-name.ensures (stops _ _ _ _ c.in_err-with.ensures))

pub returns : goal.returns
unfolding event with_names listed
returns c = goes_on _ _ _ _ _ _ c.in_ok-name.ensures (goes_on _ _ _ _ _ _ c.in_ok-with.ensures c.ended.ensures)
