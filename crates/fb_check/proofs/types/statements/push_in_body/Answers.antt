use Rattle.fb_check.proofs.lemmas.Common.{List, sym, ◌∙◌, ap, each_at, kinds_wrong_in_statement, all_standing, standing_of}
use Rattle.fb_check.specs.types.Statements.{Standing}
use Rattle.fb_check.proofs.lemmas.types.GrowingLists.{all_added}
use Rattle.fb_check_names.proofs.lemmas.Listing.{each_from-map}
use Rattle.fb_check.proofs.types.statements.push_in_body.Goals as goal

pub returns : goal.returns
returns c =
    let f = kinds_wrong_in_statement c.args.scope.now c.args.block c.args.algorithm in
    all_added c.push_in_statements.result c.args.found.now.items c.push_in_statements.new.found.items _ _
    (ap (λ (ss : List Standing). each_at f ss) (sym (ap all_standing c.as_slice.ensures.value ∙ c.in_ok-statements.ensures)) ∙ each_from-map f standing_of c.as_slice.result.now 0)
    c.push_in_statements.ensures
