use Rattle.std.proofs.Common.{arith}
use Rattle.fb_trace.proofs.lemmas.digits.RowDigits.{one_digit, three_digits, two_digits}
use Rattle.fb_trace.proofs.digit_rows.DigitRow.of.Goals as goal

pub returns-then-number-ge100-clause-text : goal.returns-then-number-ge100-clause-text
returns-then-number-ge100-clause-text c = three_digits c.args.number (omega arith) (omega arith)

pub returns-then-number-ge10-clause-text : goal.returns-then-number-ge10-clause-text
returns-then-number-ge10-clause-text c = two_digits c.args.number (omega arith) (omega arith)

pub returns-clause-text : goal.returns-clause-text
returns-clause-text c = one_digit c.args.number (omega arith)
