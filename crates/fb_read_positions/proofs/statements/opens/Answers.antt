use Rattle.fb_types.proofs.Common.{◌≡◌, ◌||◌, false, sym, ◌∙◌, false≢true}
use Rattle.fb_read.specs.Parser.{is_mark}
use Rattle.fb_read.specs.declared.token.Mark.TheVariants as mark
use Rattle.fb_read_positions.proofs.statements.opens.Goals as goal
use Rattle.fb_read_positions.proofs.statements.opens.Goals.{then-is, else-is, then-is-2, else-is-2, then-is-3, else-is-3, then-is-4, else-is-4}

pub returns-else-is-5 : goal.returns-else-is-5
returns-else-is-5 c =
    let t = c.args.token.now in
    elim c.if-is-4.branch [
      | then-is-4 w ↦ absurd (false≢true (sym c.if-is-5.false ∙ w.value-is ∙ w.if-is-4.true))
      | else-is-4 w4 ↦ elim c.if-is-3.branch [
        | then-is-3 w ↦ absurd (false≢true (sym w4.if-is-4.false ∙ w.value-is ∙ w.if-is-3.true))
        | else-is-3 w3 ↦ elim c.if-is-2.branch [
          | then-is-2 w ↦ absurd (false≢true (sym w3.if-is-3.false ∙ w.value-is ∙ w.if-is-2.true))
          | else-is-2 w2 ↦ elim c.if-is.branch [
            | then-is w ↦ absurd (false≢true (sym w2.if-is-2.false ∙ w.value-is ∙ w.if-is.true))
            | else-is w1 ↦
                let after_semicolon : false ≡ is_mark mark.Semicolon t = sym w1.if-is.false ∙ c.is.ensures in
                let after_then : false ≡ is_mark mark.Then t = sym w2.if-is-2.false ∙ w1.value-is ∙ w1.is-else-is.ensures in
                let after_else : false ≡ is_mark mark.Else t = sym w3.if-is-3.false ∙ w2.value-is ∙ w2.is-else-is-2.ensures in
                let after_do : false ≡ is_mark mark.Do t = sym w4.if-is-4.false ∙ w3.value-is ∙ w3.is-else-is-3.ensures in
                let after_repeat : false ≡ is_mark mark.Repeat t = sym c.if-is-5.false ∙ w4.value-is ∙ w4.is-else-is-4.ensures in
                c.is-else-is-5.ensures ∙ (λ i. after_semicolon i || (after_then i || (after_else i || (after_do i || (after_repeat i || is_mark mark.Colon t)))))
          ]
        ]
      ]
    ]
