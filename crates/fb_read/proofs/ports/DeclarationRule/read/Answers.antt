use Rattle.std.proofs.lemmas.Result.{err_from_is_err_and}
use Rattle.fb_read.proofs.lemmas.rules.Pairs.{declaration_is}
use Rattle.fb_read.proofs.lemmas.rules.Reading.{goes_on, read_as, stops, stops_as, stops_later}
use Rattle.fb_read.proofs.ports.DeclarationRule.read.Goals as goal

pub returns-in_err-names : goal.returns-in_err-names
returns-in_err-names c =
    let p = err_from_is_err_and c.from_residual.result c.from_residual.ensures.1 in
    rw (p.1, p.2) (stops_as _ _ _ _ (declaration_is c.args.cursor.now) (stops _ _ _ _ c.in_err-names.ensures))

pub returns-in_err-names-2 : goal.returns-in_err-names-2
returns-in_err-names-2 c =
    let p = err_from_is_err_and c.from_residual-in_err-names-2.result c.from_residual-in_err-names-2.ensures.1 in
    rw (p.1, p.2) (stops_as _ _ _ _ (declaration_is c.args.cursor.now) (stops_later _ _ _ _ _ _ c.in_ok-names.ensures (stops _ _ _ _ c.in_err-names-2.ensures)))

pub returns-in_err-initial : goal.returns-in_err-initial
returns-in_err-initial c =
    let p = err_from_is_err_and c.from_residual-in_err-initial.result c.from_residual-in_err-initial.ensures.1 in
    rw (p.1, p.2) (stops_as _ _ _ _ (declaration_is c.args.cursor.now) (stops_later _ _ _ _ _ _ c.in_ok-names.ensures (stops_later _ _ _ _ _ _ c.in_ok-names-2.ensures (stops _ _ _ _ c.in_err-initial.ensures))))

pub returns : goal.returns
returns c = read_as _ _ _ _ (declaration_is c.args.cursor.now) (goes_on _ _ _ _ _ _ c.in_ok-names.ensures (goes_on _ _ _ _ _ _ c.in_ok-names-2.ensures (goes_on _ _ _ _ _ _ c.in_ok-initial.ensures c.ended.ensures)))
