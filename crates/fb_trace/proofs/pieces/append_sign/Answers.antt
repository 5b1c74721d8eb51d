use Rattle.fb_types.proofs.Common.{Bool, ◌++◌, sym, ap, ◌∙◌, codes, if◌then◌else◌}
use Rattle.fb_trace.proofs.pieces.append_sign.Goals as goal

pub returns-then-taken-clause-text : goal.returns-then-taken-clause-text
returns-then-taken-clause-text c =
    let p = c.args.page.now in
    c.append.ensures.text ∙ ap (λ (b : Bool). record p { waiting = p.waiting ++ (if b then codes " > " else codes " < ") }) (sym c.if-taken.true)

pub returns-else-taken-clause-text : goal.returns-else-taken-clause-text
returns-else-taken-clause-text c =
    let p = c.args.page.now in
    c.append-else-taken.ensures.text ∙ ap (λ (b : Bool). record p { waiting = p.waiting ++ (if b then codes " > " else codes " < ") }) (sym c.if-taken.false)
