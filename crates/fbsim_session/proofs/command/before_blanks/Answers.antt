use Rattle.std.proofs.Common.{◌≡◌, ◌∙◌, sym, ap, arith, length, take}
use Rattle.fbsim_session.specs.Commands.{before_blanks}
use Rattle.fbsim_session.proofs.lemmas.Commanding.{before_here, before_next}
use Rattle.fbsim_session.proofs.lemmas.Pieces.{take_whole}
use Rattle.fbsim_session.proofs.command.before_blanks.Goals as goal
use Rattle.fbsim_session.proofs.command.before_blanks.Goals.{then-byte-ne32, else-byte-ne32}

pub loop-at-preserved : goal.loop-at-preserved
loop-at-preserved c =
    let xs = c.args.text.now in
    elim c.if-byte-ne32.branch [
      | then-byte-ne32 w ↦ (omega (arith, w.end-is), before_here xs c.loop-at.at (omega arith) w.if-byte-ne32.true ∙ ap (λ k. take k xs) (sym w.end-is))
      | else-byte-ne32 w ↦ (
        omega (arith, w.end-is),
        before_next xs c.loop-at.at c.loop-at.end (omega arith) w.if-byte-ne32.false c.loop-at.invariant.1 ∙ ap (λ k. take k xs) (sym w.end-is),
      )
    ]

pub returns : goal.returns
returns c =
    let xs = c.args.text.now in
    let e : c.loop-at.at ≡ length xs = omega arith in
    sym c.loop-at.invariant.1 ∙ ap (λ k. before_blanks (take k xs)) e ∙ ap before_blanks (take_whole xs)
