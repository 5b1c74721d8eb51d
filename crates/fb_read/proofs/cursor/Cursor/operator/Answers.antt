use Rattle.fb_read.proofs.lemmas.Common.{◌≡◌, Some, refl, sym, ◌∙◌, eq-eqb, operator_of}
use Rattle.fb_read.proofs.cursor.Cursor.operator.Goals as goal

pub returns : goal.returns
returns c =
    let o : operator_of c.in-Some-Mark.mark ≡ Some (c.in-Some.found, c.in-Some.operator) = sym c.operator_of.ensures ∙ c.in-Some.is in
    rw (c.in-Some-Mark.ensures.some, c.in-Some-Mark.field-0-is, o, eq-eqb c.in-Some.found c.args.level c.if-found-level.true) refl
