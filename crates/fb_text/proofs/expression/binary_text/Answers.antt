use Rattle.std.proofs.Common.{sym, ap}
use Rattle.fb_text.specs.Expressions as spec
use Rattle.fb_text.proofs.expression.binary_text.Goals as goal

pub returns-in-Less : goal.returns-in-Less
returns-in-Less c = sym (ap spec.binary_text c.in-Less.is)
