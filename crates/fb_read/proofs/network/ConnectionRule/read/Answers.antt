use Rattle.std.proofs.lemmas.Result.{err_from_is_err_and}
use Rattle.fb_read.proofs.lemmas.rules.Pairs.{connection_is}
use Rattle.fb_read.proofs.lemmas.rules.Reading.{goes_on, read_as, stops, stops_as}
use Rattle.fb_read.proofs.network.ConnectionRule.read.Goals as goal

pub returns-in_err-from : goal.returns-in_err-from
returns-in_err-from c =
    let p = err_from_is_err_and c.from_residual.result c.from_residual.ensures.1 in
    rw (p.1, p.2) (stops_as _ _ _ _ (connection_is c.args.cursor.now) (stops _ _ _ _ c.in_err-from.ensures))

pub returns : goal.returns
returns c = read_as _ _ _ _ (connection_is c.args.cursor.now) (goes_on _ _ _ _ _ _ c.in_ok-from.ensures c.ended.ensures)
