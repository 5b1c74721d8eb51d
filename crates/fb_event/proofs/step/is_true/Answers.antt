use Rattle.fb_types.proofs.Common.{sym, ap, truth}
use Rattle.fb_event.proofs.step.is_true.Goals as goal

pub returns-in-Bool : goal.returns-in-Bool
returns-in-Bool c = ap truth (sym c.in-Bool.is)
