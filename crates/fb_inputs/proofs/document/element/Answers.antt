use Rattle.fb_inputs.proofs.lemmas.Common.{sym, ap, element_at, or_refuse}
use Rattle.fb_inputs.proofs.document.element.Goals as goal

pub returns-in-None : goal.returns-in-None
returns-in-None g c = ap (or_refuse (element_at c.args.key c.args.index)) (sym (rw c.in-None.is at (rw c.in_ok-piece.was at c.read.ensures)))
