use Rattle.std.proofs.Common.{◌∙◌}
use Rattle.fb_system.proofs.lemmas.networks.Wired.{last_is}
use Rattle.fb_system.proofs.tables.last_index.Goals as goal

pub returns : goal.returns
returns c = c.in_ok-index.ensures.value ∙ last_is c.args.route.now
