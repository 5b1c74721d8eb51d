use Rattle.fb_wave.proofs.lemmas.Numerals.{numbered, unnumbered, unblanked}
use Rattle.fb_wave.proofs.number.number.Goals as goal

pub returns-in_err-natural-clause-number : goal.returns-in_err-natural-clause-number
returns-in_err-natural-clause-number c = rw c.from_residual-in_err-natural.ensures (unnumbered c.args.text.now _ _ c.in_ok-parts.ensures c.in_err-natural.ensures)

pub returns-in_err-after_front-clause-number : goal.returns-in_err-after_front-clause-number
returns-in_err-after_front-clause-number c = rw c.from_residual-in_err-after_front.ensures (unblanked c.args.text.now _ _ c.in_ok-parts.ensures c.in_err-after_front.ensures)

pub returns-clause-number : goal.returns-clause-number
returns-clause-number c = numbered c.args.text.now _ _ _ _ c.in_ok-parts.ensures c.in_ok-natural.ensures c.in_ok-after_front.ensures
