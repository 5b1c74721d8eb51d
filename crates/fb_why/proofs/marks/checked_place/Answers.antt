use Rattle.std.proofs.Common.{refl, sym, ◌∙◌}
use Rattle.std.proofs.lemmas.Result.{IfOk-weaker}
use Rattle.fb_why.specs.Positions.{position_of}
use Rattle.fb_why.proofs.lemmas.PlacedFindings.{marked_for, shown_for}
use Rattle.fb_why.proofs.marks.checked_place.Goals as goal

pub returns-then-is_of_expression : goal.returns-then-is_of_expression
returns-then-is_of_expression c =
    IfOk-weaker c.marked_place.result _ _
    (λ o marked. marked_for c.args.text.now c.args.location o (sym c.is_of_expression.ensures ∙ c.if-is_of_expression.true) marked) c.marked_place.ensures

pub returns-else-is_of_expression : goal.returns-else-is_of_expression
returns-else-is_of_expression c =
    shown_for c.args.text.now c.args.library.now c.args.location (position_of c.args.library.now c.args.location) c.args.place c.requires.read refl
    (sym c.is_of_expression.ensures ∙ c.if-is_of_expression.false) c.requires.place
