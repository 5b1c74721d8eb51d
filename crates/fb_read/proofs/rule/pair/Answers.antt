use Rattle.std.proofs.lemmas.Result.{err_from_is_err_and}
use Rattle.fb_read.specs.Parser.{pair}
use Rattle.fb_read.proofs.lemmas.rules.Reading.{goes_on, stops}
use Rattle.fb_read.proofs.rule.pair.Goals as goal

pub returns-in_err-first : goal.returns-in_err-first
unfolding pair
returns-in_err-first g c =
    let p = err_from_is_err_and c.from_residual.result c.from_residual.ensures.1 in
    rw (p.1, p.2) (stops _ _ _ _ c.in_err-first.ensures)

pub returns : goal.returns
unfolding pair
returns g c = goes_on _ _ _ _ _ _ c.in_ok-first.ensures c.then_read.ensures
