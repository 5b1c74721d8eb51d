use Rattle.std.proofs.Common.{◌≡◌, ◌/◌, ◌%◌, decimal, arith}
use Rattle.fb_trace.proofs.lemmas.digits.Digits.{last_digit}
use Rattle.fb_trace.proofs.lemmas.lines.PutPieces.{appended-more}
use Rattle.fb_trace.proofs.page.Page.append_two.Goals as goal
use Rattle.fb_trace.proofs.page.Page.append_two.Goals.{then-number-ge10, else-number-ge10}

pub returns-clause-text : goal.returns-clause-text
returns-clause-text c =
    let n = c.args.number in
    let text = c.append_digit-2.ensures.text in
    elim c.if-number-ge10.branch [
      | then-number-ge10 w ↦
          rw (last_digit n (omega arith) (omega arith))
          (appended-more c.args.self.now w.append_digit.new.self c.append_digit-2.new.self (decimal (n / 10)) (decimal (n % 10)) w.append_digit.ensures.text (rw w.self-is at text))
      | else-number-ge10 w ↦ let e : n % 10 ≡ n = omega arith in rw (e, w.self-is) at text
    ]
