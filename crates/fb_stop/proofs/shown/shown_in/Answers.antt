use Rattle.fb_stop.proofs.lemmas.operations.OperationTokens.{no_token, shown_there}
use Rattle.fb_stop.proofs.shown.shown_in.Goals as goal

pub returns-in-Some : goal.returns-in-Some
returns-in-Some c =
    shown_there c.args.text.now c.args.span c.args.tokens.now c.args.operation c.in-Some.begin c.shown_from.result c.requires c.in-Some.ensures c.shown_from.ensures

pub returns-in-None : goal.returns-in-None
returns-in-None c = λ library position at. no_token c.args.text.now library position c.args.operation c.args.span at c.args.tokens.now c.requires c.in-None.ensures
