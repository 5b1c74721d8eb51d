use Rattle.std.proofs.Common.{◌≡◌, ◌∙◌, sym, ap, arith, length, drop, drop_of_length-le, le_refl}
use Rattle.fbsim_session.specs.Commands.{after_blanks}
use Rattle.fbsim_session.proofs.lemmas.Commanding.{after_next}
use Rattle.fbsim_session.proofs.command.after_blanks.Goals as goal

pub loop-at-preserved : goal.loop-at-preserved
loop-at-preserved c = after_next c.args.text.now c.loop-at.at (omega arith) c.if-byte-ne32.false ∙ c.loop-at.invariant

pub returns : goal.returns
returns c =
    let e : length c.args.text.now ≡ c.loop-at.at = omega arith in
    sym (ap after_blanks (drop_of_length-le c.args.text.now (le_refl (length c.args.text.now))))
    ∙ ap (λ k. after_blanks (drop k c.args.text.now)) e ∙ c.loop-at.invariant
