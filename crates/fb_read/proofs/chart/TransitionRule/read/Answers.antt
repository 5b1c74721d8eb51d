use Rattle.std.proofs.lemmas.Result.{err_from_is_err_and}
use Rattle.fb_read.proofs.lemmas.rules.Pairs.{transition_is}
use Rattle.fb_read.proofs.lemmas.rules.Reading.{goes_on, read_as, stops, stops_as, stops_later}
use Rattle.fb_read.proofs.chart.TransitionRule.read.Goals as goal

pub returns-in_err-both : goal.returns-in_err-both
returns-in_err-both c =
    let p = err_from_is_err_and c.from_residual.result c.from_residual.ensures.1 in
    rw (p.1, p.2) (stops_as _ _ _ _ (transition_is c.args.cursor.now) (stops _ _ _ _ c.in_err-both.ensures))

pub returns-in_err-both-2 : goal.returns-in_err-both-2
returns-in_err-both-2 c =
    let p = err_from_is_err_and c.from_residual-in_err-both-2.result c.from_residual-in_err-both-2.ensures.1 in
    rw (p.1, p.2) (stops_as _ _ _ _ (transition_is c.args.cursor.now) (stops_later _ _ _ _ _ _ c.in_ok-both.ensures (stops _ _ _ _ c.in_err-both-2.ensures)))

pub returns : goal.returns
returns c = read_as _ _ _ _ (transition_is c.args.cursor.now) (goes_on _ _ _ _ _ _ c.in_ok-both.ensures (goes_on _ _ _ _ _ _ c.in_ok-both-2.ensures c.ended.ensures))
