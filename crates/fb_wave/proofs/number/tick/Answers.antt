use Rattle.fb_wave.proofs.lemmas.Numerals.{too_wide}
use Rattle.fb_wave.proofs.number.tick.Goals as goal

pub returns-in_err-narrow-clause-tick : goal.returns-in_err-narrow-clause-tick
returns-in_err-narrow-clause-tick c = rw c.from_residual-in_err-narrow.ensures (too_wide c.args.text.now c.in_ok-parts.parts.1.now c.in_ok-parts.parts.0 c.in_ok-parts.ensures.number c.in_err-narrow.ensures)
