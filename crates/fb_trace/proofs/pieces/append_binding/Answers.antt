use Rattle.fb_trace.proofs.lemmas.lines.PutPieces.{Puts-appended, Puts-more}
use Rattle.fb_trace.proofs.pieces.append_binding.Goals as goal

pub returns : goal.returns
returns c a =
    Puts-more
    (Puts-more (Puts-more (Puts-appended a c.append.ensures.text) (Puts-appended a c.append-2.ensures.text)) (Puts-appended a c.append-3.ensures.text))
    (Puts-appended a c.append_value.ensures.text)
