use Rattle.std.proofs.Common.{◌++◌, ◌/◌, ◌%◌, decimal, arith}
use Rattle.fb_trace.proofs.lemmas.digits.Digits.{last_digits}
use Rattle.fb_trace.proofs.lemmas.lines.PutPieces.{appended-more}
use Rattle.fb_trace.proofs.page.Page.append_four.Goals as goal

pub returns-clause-text : goal.returns-clause-text
returns-clause-text c =
    let n = c.args.number in
    rw (last_digits n (omega arith) (omega arith))
    (appended-more c.args.self.now c.append_two-2.new.self c.append_digit-2.new.self (decimal (n / 100)) (decimal (n / 10 % 10) ++ decimal (n % 10)) c.append_two-2.ensures.text
    (appended-more c.append_two-2.new.self c.append_digit.new.self c.append_digit-2.new.self (decimal (n / 10 % 10)) (decimal (n % 10)) c.append_digit.ensures.text c.append_digit-2.ensures.text))
