use Rattle.std.proofs.Common.{◌<◌, get_or-set_same, subst, sym, arith}
use Rattle.fb_trace.specs.declared.digit_rows.DigitRow.{DigitRow}
use Rattle.fb_trace.proofs.lemmas.digits.RowDigits.{rows_made}
use Rattle.fb_trace.proofs.digit_rows.DigitRows.make.Goals as goal

pub invariant_of-self : goal.invariant_of-self
invariant_of-self c =
    let r = c.of-row in
    rows_made c.self.inside.rows c.args.number r.result c.self.invariant (omega arith) (record { within = r.ensures.width; digits = λ some. r.ensures.text })

pub returns : goal.returns
returns c = λ d.
    let r = c.of-row in
    subst (λ (x : DigitRow). 0 < x.width) (sym (get_or-set_same c.self.inside.rows c.args.number r.result d (omega arith))) r.ensures.some
