use Rattle.fb_stop.proofs.lemmas.runs.Spending.{charges}
use Rattle.fb_stop.proofs.spent.charge.Goals as goal

pub returns : goal.returns
returns c = charges c.args.spent.now.items c.args.instance c.args.used c.index.result.now c.saturating_add.result c.requires c.index.ensures c.saturating_add.ensures
