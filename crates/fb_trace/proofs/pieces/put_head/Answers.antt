use Rattle.fb_trace.proofs.lemmas.lines.PutPieces.{Fails-before, Gathers-passed, Puts-more}
use Rattle.fb_trace.proofs.pieces.put_head.Goals as goal

pub returns-in_err-make_room : goal.returns-in_err-make_room
returns-in_err-make_room g c = Gathers-passed _ c.from_residual.ensures.1 (Fails-before _ c.in_err-make_room.ensures.text.part)

pub returns : goal.returns
returns g c = record { whole = Puts-more c.in_ok-make_room.ensures.text.whole (c.append_head.ensures _); part = tt }
