use Rattle.std.proofs.Common.{◌≡◌, ◌/◌, sym, ◌∙◌, arith}
use Rattle.fb_trace.proofs.lemmas.digits.Tens.{last_changed, of_one_ten, two_at_least}
use Rattle.fb_trace.proofs.number.LastNumber.replace.Goals as goal

pub overflow_sub-self : goal.overflow_sub-self
overflow_sub-self c =
    let n = c.self.inside in
    let same : n.number / 10 ≡ c.args.number / 10 = sym c.self.invariant.2 ∙ sym c.if-number-self-2.true in
    two_at_least n.number c.args.number n.width n.text (of_one_ten n.number c.args.number same c.ranges.number.fits) (omega (arith, c.self.invariant.0)) c.self.invariant.1

pub invariant_of-self : goal.invariant_of-self
invariant_of-self c =
    let n = c.self.inside in
    let same : n.number / 10 ≡ c.args.number / 10 = sym c.self.invariant.2 ∙ sym c.if-number-self-2.true in (
      c.self.invariant.0,
      last_changed n.number c.args.number n.width n.text (of_one_ten n.number c.args.number same c.ranges.number.fits) (omega (arith, c.self.invariant.0))
          c.self.invariant.1,
      sym c.if-number-self-2.true,
    )
