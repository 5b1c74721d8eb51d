use Rattle.fb_check.proofs.lemmas.Common.{◌∷◌, sym, ap, Name, expr_of, mentions, meant_all}
use Rattle.fb_types.specs.Unknown.{OfVariable}
use Rattle.fb_check.proofs.lemmas.types.GrowingLists.{and_added}
use Rattle.fb_check.proofs.types.mentions.push_assignment.Goals as goal

pub returns : goal.returns
returns c =
    and_added c.and.result c.push_mention.result c.push_expression.result (meant_all c.args.all.now.items) (meant_all c.push_mention.new.all.items)
    (meant_all c.push_expression.new.all.items) _ _ _ (ap (λ (n : Name). OfVariable n ∷ mentions (expr_of c.args.expr.now)) (sym c.name.ensures)) c.and.ensures
    c.push_mention.ensures c.push_expression.ensures
