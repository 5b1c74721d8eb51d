use Rattle.std.proofs.Common.{sym, ap}
use Rattle.fb_expect.specs.Drafts.{one_if}
use Rattle.fb_expect.proofs.document.one_if.Goals as goal

pub returns-then-here : goal.returns-then-here
returns-then-here c = ap one_if (sym c.if-here.true)

pub returns-else-here : goal.returns-else-here
returns-else-here c = ap one_if (sym c.if-here.false)
