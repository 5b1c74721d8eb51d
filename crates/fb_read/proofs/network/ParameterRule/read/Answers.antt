use Rattle.fb_types.proofs.Common.{◌∙◌, refl, err_from_is_err_and}
use Rattle.fb_read.proofs.lemmas.rules.Pairs.{parameter_is}
use Rattle.fb_read.proofs.lemmas.rules.Reading.{stops, stops_as, went_on}
use Rattle.fb_read.proofs.network.ParameterRule.read.Goals as goal

pub returns-in_err-name : goal.returns-in_err-name
returns-in_err-name c =
    let p = err_from_is_err_and c.from_residual.result c.from_residual.ensures.1 in
    rw (p.1, p.2) (stops_as _ _ _ _ (parameter_is c.args.cursor.now) (stops _ _ _ _ c.in_err-name.ensures))

pub returns : goal.returns
returns c = parameter_is c.args.cursor.now ∙ went_on _ _ _ _ _ c.in_ok-name.ensures refl
