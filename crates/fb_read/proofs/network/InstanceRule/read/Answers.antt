use Rattle.std.proofs.lemmas.Result.{err_from_is_err_and}
use Rattle.fb_read.proofs.lemmas.rules.Pairs.{instance_is}
use Rattle.fb_read.proofs.lemmas.rules.Reading.{goes_on, read_as, stops, stops_as, stops_later}
use Rattle.fb_read.proofs.network.InstanceRule.read.Goals as goal

pub returns-in_err-name : goal.returns-in_err-name
returns-in_err-name c =
    let p = err_from_is_err_and c.from_residual.result c.from_residual.ensures.1 in
    rw (p.1, p.2) (stops_as _ _ _ _ (instance_is c.args.cursor.now) (stops _ _ _ _ c.in_err-name.ensures))

pub returns-in_err-parameters : goal.returns-in_err-parameters
returns-in_err-parameters c =
    let p = err_from_is_err_and c.from_residual-in_err-parameters.result c.from_residual-in_err-parameters.ensures.1 in
    rw (p.1, p.2) (stops_as _ _ _ _ (instance_is c.args.cursor.now) (stops_later _ _ _ _ _ _ c.in_ok-name.ensures (stops _ _ _ _ c.in_err-parameters.ensures)))

pub returns : goal.returns
returns c = read_as _ _ _ _ (instance_is c.args.cursor.now) (goes_on _ _ _ _ _ _ c.in_ok-name.ensures (goes_on _ _ _ _ _ _ c.in_ok-parameters.ensures c.ended.ensures))
