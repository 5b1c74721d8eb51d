use Rattle.fb_trace.proofs.lemmas.lines.PutPieces.{Fails-before, Gathers-after, Gathers-passed}
use Rattle.fb_trace.proofs.pieces.put_part.Goals as goal

pub returns-in_err-put_number : goal.returns-in_err-put_number
returns-in_err-put_number g c = Gathers-passed _ c.from_residual.ensures.1 (Fails-before _ c.in_err-put_number.ensures.part)

pub returns : goal.returns
returns g c = Gathers-after _ c.in_ok-put_number.ensures.whole c.put.ensures
