use Rattle.std.proofs.Common.{sym, ap}
use Rattle.fb_stop.specs.Links.{failing_index}
use Rattle.fb_stop.proofs.reaction.failing.Goals as goal

pub returns-in-Steps : goal.returns-in-Steps
returns-in-Steps c = ap (failing_index c.args.before c.args.after) (sym c.in-Steps.is)
