use Rattle.fb_wave.proofs.lemmas.Valued.{zero_digits}
use Rattle.fb_wave.proofs.values.below_zero.Goals as goal

pub returns-in-0 : goal.returns-in-0
returns-in-0 c = zero_digits c.args.digits.now c.in_ok-number.number c.in_ok-number.ensures c.in-0.is
