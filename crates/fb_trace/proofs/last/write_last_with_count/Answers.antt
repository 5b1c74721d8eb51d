use Rattle.std.proofs.Common.{append-nil}
use Rattle.fb_trace.proofs.lemmas.lines.WriterEnds.{all_got, part_passed}
use Rattle.fb_trace.proofs.lemmas.lines.PutPieces.{Fails-after}
use Rattle.fb_trace.proofs.last.write_last_with_count.Goals as goal

pub returns-clause-whole : goal.returns-clause-whole
returns-clause-whole g c =
    all_got (rw c.new-page.ensures at c.in_ok-put_last.ensures.whole) c.in_ok-flush.ensures.text.whole c.in_ok-flush.ensures.empty

pub returns-in_err-put_last-clause-part : goal.returns-in_err-put_last-clause-part
returns-in_err-put_last-clause-part g c =
    part_passed _ c.from_residual.ensures.1 (rw c.new-page.ensures at c.in_err-put_last.ensures.part)

pub returns-in_err-flush-clause-part : goal.returns-in_err-flush-clause-part
returns-in_err-flush-clause-part g c =
    part_passed _ c.from_residual-in_err-flush.ensures.1
    (rw append-nil at (Fails-after (rw c.new-page.ensures at c.in_ok-put_last.ensures.whole) c.in_err-flush.ensures.text.part))
