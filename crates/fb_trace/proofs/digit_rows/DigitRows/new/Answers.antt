use Rattle.std.proofs.Common.{refl}
use Rattle.fb_trace.proofs.lemmas.digits.RowDigits.{rows_none}
use Rattle.fb_trace.proofs.digit_rows.DigitRows.new.Goals as goal

pub invariant_of-result : goal.invariant_of-result
invariant_of-result c = rows_none 1000 _ refl
