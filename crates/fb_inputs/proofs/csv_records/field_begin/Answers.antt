use Rattle.std.proofs.Common.{◌≡◌, ◌≤◌, ◌+◌, ◌-◌, length, inr, refl, arith}
use Rattle.fb_inputs.proofs.lemmas.positions.FieldSpans.{no_field_from}
use Rattle.fb_inputs.proofs.csv_records.field_begin.Goals as goal

pub returns-in_err-at : goal.returns-in_err-at
returns-in_err-at c = rw c.from_residual.ensures (no_field_from c.args.rest.now c.args.index c.if-index-eq0.false c.in_err-at.ensures)

pub returns : goal.returns
returns c =
    let before : c.args.index ≡ (c.args.index - 1) + 1 = let some = c.if-index-eq0.false in omega (arith, some) in
    let within : c.in_ok-at.at + 1 ≤ length c.args.rest.now = let there = c.in_ok-at.ensures.0.within in omega (arith, there) in
    (inr (c.args.index - 1, c.in_ok-at.at, before, refl, c.in_ok-at.ensures.0, c.in_ok-at.ensures.1), within)
