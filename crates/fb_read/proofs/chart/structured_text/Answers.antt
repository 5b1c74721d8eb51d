use Rattle.fb_read.proofs.lemmas.Common.{err_from_is_err_and, structured_text}
use Rattle.fb_read.proofs.lemmas.rules.Reading.{goes_on, stops, stops_later}
use Rattle.fb_read.proofs.chart.structured_text.Goals as goal

pub returns-in_err-word : goal.returns-in_err-word
unfolding structured_text
returns-in_err-word c =
    let p = err_from_is_err_and c.from_residual.result c.from_residual.ensures.1 in
    rw (p.1, p.2) (stops _ _ _ _ c.in_err-word.ensures)

pub returns-in_err-word-2 : goal.returns-in_err-word-2
unfolding structured_text
returns-in_err-word-2 c =
    let p = err_from_is_err_and c.from_residual-in_err-word-2.result c.from_residual-in_err-word-2.ensures.1 in
    rw (p.1, p.2) (stops_later _ _ _ _ _ _ c.in_ok-word.ensures (stops _ _ _ _ c.in_err-word-2.ensures))

pub returns-in_err-expect : goal.returns-in_err-expect
unfolding structured_text
returns-in_err-expect c =
    let p = err_from_is_err_and c.from_residual-in_err-expect.result c.from_residual-in_err-expect.ensures.1 in
    rw (p.1, p.2) (stops_later _ _ _ _ _ _ c.in_ok-word.ensures (stops_later _ _ _ _ _ _ c.in_ok-word-2.ensures (stops _ _ _ _ c.in_err-expect.ensures)))

pub returns : goal.returns
unfolding structured_text
returns c = goes_on _ _ _ _ _ _ c.in_ok-word.ensures (goes_on _ _ _ _ _ _ c.in_ok-word-2.ensures (goes_on _ _ _ _ _ _ c.in_ok-expect.ensures c.body.ensures))
