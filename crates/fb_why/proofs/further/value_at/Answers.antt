use Rattle.toml.proofs.Views.{table_get}
use Rattle.fb_why.proofs.further.value_at.Goals as goal

pub returns : goal.returns
returns c = table_get c.get.result c.args.key.now c.args.keys.now.entries c.get.ensures.value
