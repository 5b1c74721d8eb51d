use Rattle.fb_types.proofs.Common.{◌∷◌, ◌++◌, List, [], refl, sym, ap, Name, expr_of, Mention, mentions}
use Rattle.fb_types.specs.Unknown.{OfVariable}
use Rattle.fb_check.specs.types.Mentions.{meant_all, mentions_of_step}
use Rattle.fb_check.proofs.lemmas.types.GrowingLists.{and_added}
use Rattle.fb_check.proofs.types.mentions.push_control.Goals as goal

pub returns : goal.returns
returns c =
    let old = meant_all c.args.all.now.items in
    let one = meant_all c.push_mention.new.all.items in
    let two = meant_all c.push_expression.new.all.items in
    let three = meant_all c.push_expression-2.new.all.items in
    let four = meant_all c.push_step.new.all.items in
    let v : List Mention = OfVariable c.name.result.now ∷ [] in
    let s : List Mention = mentions (expr_of c.args.start.now) in
    let e : List Mention = mentions (expr_of c.args.end.now) in
    let f : List Mention = mentions_of_step c.args.step.now in
    and_added c.and-3.result c.and-2.result c.push_step.result old three four ((v ++ s) ++ e) f _
    (ap (λ (n : Name). OfVariable n ∷ s ++ e ++ f) (sym c.name.ensures))
    c.and-3.ensures
    (and_added c.and-2.result c.and.result c.push_expression-2.result old two three (v ++ s) e _ refl c.and-2.ensures
    (and_added c.and.result c.push_mention.result c.push_expression.result old one two v s _ refl c.and.ensures c.push_mention.ensures c.push_expression.ensures)
    c.push_expression-2.ensures)
    c.push_step.ensures
