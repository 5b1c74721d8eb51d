use Rattle.toml.specs.View.{view}
use Rattle.fb_inputs.proofs.lemmas.deployments.DocumentValues.{array_view}
use Rattle.fb_inputs.proofs.document.array.Goals as goal

pub returns-in-Some : goal.returns-in-Some
returns-in-Some g c =
    rw (array_view c.args.key g.T.Piece.meaning (view c.args.value.now) c.in-Some.values.now.items c.in-Some.ensures) (rw c.as_slice.ensures.value at c.each.ensures)
