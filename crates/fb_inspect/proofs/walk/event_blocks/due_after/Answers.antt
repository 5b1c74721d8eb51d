use Rattle.fb_inspect.proofs.lemmas.Common.{sym, ap, TimerAsk, due_after}
use Rattle.fb_inspect.proofs.walk.event_blocks.due_after.Goals as goal

pub returns-in-Clear : goal.returns-in-Clear
returns-in-Clear c = ap (λ (a : TimerAsk). due_after a c.args.due) (sym c.in-Clear.is)
