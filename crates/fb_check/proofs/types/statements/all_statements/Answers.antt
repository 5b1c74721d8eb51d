use Rattle.fb_check.proofs.lemmas.Common.{false, List, ◌++◌, ◌∙◌, ap, body_of, all_standing, each_in_body}
use Rattle.fb_check.specs.declared.types.statements.Standing.{Standing}
use Rattle.fb_check.proofs.lemmas.types.GrowingLists.{ok_joined}
use Rattle.fb_check.proofs.types.statements.all_statements.Goals as goal

pub returns : goal.returns
returns c =
    ok_joined _ c.and.result c.push_statements.result _ c.and.ensures c.push_statements.ensures
    (λ added. added ∙ ap (λ (xs : List Standing). all_standing xs ++ each_in_body false (body_of c.args.body.now)) c.new-all.ensures.items)
