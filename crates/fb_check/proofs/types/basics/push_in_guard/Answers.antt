use Rattle.fb_check.proofs.lemmas.Common.{◌++◌, List, Option, sym, ◌∙◌, ap, expr_of, mentions, Expr, UnknownName, meant_all, unknown_mentions}
use Rattle.fb_check.specs.declared.types.basics.Naming.TheVariants as naming
use Rattle.fb_check.specs.declared.types.mentions.Mention as gathered
use Rattle.fb_check.proofs.lemmas.types.GrowingLists.{and_both}
use Rattle.fb_check.proofs.lemmas.types.Mentioned.{mentions_are, mentions_of}
use Rattle.fb_check.proofs.types.basics.push_in_guard.Goals as goal

pub returns : goal.returns
returns c =
    let t = c.args.scope.now in
    let text = naming.Guard c.args.block c.args.transition in
    let old = c.args.found.now.items in
    let named = mentions (expr_of c.in-Some.guard) in
    and_both c.and.result c.push_expression.result c.push_mentions.result c.and.ensures
    (λ there listed. listed ∙ ap (λ (us : List UnknownName). old ++ us) (sym
    (ap (λ (o : Option Expr). unknown_mentions t text (mentions_of o)) c.in-Some.is
    ∙ mentions_are t text c.as_slice.result.now named
    (ap meant_all c.as_slice.ensures.value ∙ there ∙ ap (λ (ms : List gathered.Mention). meant_all ms ++ named) c.new-mentions.ensures.items))))
    c.push_expression.ensures c.push_mentions.ensures
