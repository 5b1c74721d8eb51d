use Rattle.fb_net.proofs.lemmas.Common.{◌≡◌, [], None, Some, sym, ap, ◌∙◌, slice_get, unwrap_or, side_index_of}
use Rattle.fb_net.proofs.lemmas.values.HeldSides.{held_by}
use Rattle.fb_net.proofs.held_copies.HeldCopies.get.Goals as goal

pub returns : goal.returns
returns c =
    let h = c.args.self.now in
    let x = c.args.variable.now in
    let side = c.in_ok-side.side.now in
    let there : slice_get h.sides (side_index_of x) ≡ Some side = ap (slice_get h.sides) (sym c.side_index_of.ensures) ∙ sym c.in_ok-side.ensures.value in
    c.get-2.ensures.value ∙ sym (held_by h x side (ap (λ o. unwrap_or o []) there))

pub returns-in_err-side : goal.returns-in_err-side
returns-in_err-side c =
    let h = c.args.self.now in
    let x = c.args.variable.now in
    let there : slice_get h.sides (side_index_of x) ≡ None = ap (slice_get h.sides) (sym c.side_index_of.ensures) ∙ sym c.in_err-side.ensures.value in
    rw c.from_residual.ensures (sym (held_by h x [] (ap (λ o. unwrap_or o []) there)))
