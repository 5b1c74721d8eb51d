use Rattle.fb_types.proofs.Common.{sym, ap, reason_text}
use Rattle.fb_trace.proofs.last.reason_name.Goals as goal

pub returns-in-Divide : goal.returns-in-Divide
returns-in-Divide c = ap reason_text (sym c.in-Divide.is)
