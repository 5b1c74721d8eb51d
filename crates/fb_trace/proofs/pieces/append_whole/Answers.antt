use Rattle.std.proofs.Common.{codes, decimal, unsigned_abs, to_z-of_z}
use Rattle.fb_trace.proofs.lemmas.digits.Signs.{value_text-negative, value_text-other}
use Rattle.fb_trace.proofs.lemmas.lines.PutPieces.{appended-more}
use Rattle.fb_trace.proofs.pieces.append_whole.Goals as goal
use Rattle.fb_trace.proofs.pieces.append_whole.Goals.{then-number-lt0, else-number-lt0}

pub returns-clause-text : goal.returns-clause-text
returns-clause-text c =
    let z = c.args.number in
    let back = to_z-of_z c.ranges.number in
    let text = rw (rw back at c.unsigned_abs.ensures.value) at c.append_number.ensures.text in
    elim c.if-number-lt0.branch [
      | then-number-lt0 w ↦
          rw (value_text-negative z (rw back at w.if-number-lt0.true)) (appended-more c.args.page.now w.append_byte.new.self c.append_number.new.self (codes "-") (decimal (unsigned_abs z)) w.append_byte.ensures.text (rw w.page-is at text))
      | else-number-lt0 w ↦ rw (value_text-other z (rw back at w.if-number-lt0.false)) (rw w.page-is at text)
    ]
