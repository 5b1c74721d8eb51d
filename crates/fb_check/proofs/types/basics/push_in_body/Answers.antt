use Rattle.fb_check.proofs.lemmas.Common.{◌++◌, List, sym, ◌∙◌, ap, body_of, mentions_body, UnknownName, meant_all}
use Rattle.fb_check.specs.declared.types.basics.Naming.TheVariants as naming
use Rattle.fb_check.specs.declared.types.mentions.Mention as gathered
use Rattle.fb_check.proofs.lemmas.types.GrowingLists.{and_both}
use Rattle.fb_check.proofs.lemmas.types.Mentioned.{mentions_are}
use Rattle.fb_check.proofs.types.basics.push_in_body.Goals as goal

pub returns : goal.returns
returns c =
    let t = c.args.scope.now in
    let text = naming.Body c.args.block c.args.algorithm in
    let old = c.args.found.now.items in
    let named = mentions_body (body_of c.args.declared.now.body) in
    and_both c.and.result c.push_body.result c.push_mentions.result c.and.ensures
    (λ there listed. listed ∙ ap (λ (us : List UnknownName). old ++ us) (sym (mentions_are t text c.as_slice.result.now named
    (ap meant_all c.as_slice.ensures.value ∙ there ∙ ap (λ (ms : List gathered.Mention). meant_all ms ++ named) c.new-mentions.ensures.items))))
    c.push_body.ensures c.push_mentions.ensures
