use Rattle.fb_lint.proofs.lemmas.Common.{List, refl, flat_map, standing_of, all_standing, meant_all}
use Rattle.fb_check.specs.declared.types.statements.Standing.{Standing}
use Rattle.fb_lint.specs.Statements.{read_standing}
use Rattle.fb_check.proofs.lemmas.types.GrowingLists.{list_added, one_added}
use Rattle.fb_lint.proofs.statements.push_read_by.Goals as goal

pub loop-standing-preserved : goal.loop-standing-preserved
loop-standing-preserved c =
    one_added (λ (xs : List Standing). flat_map read_standing (all_standing xs)) (λ (s : Standing). read_standing (standing_of s)) c.args.statements.now c.loop-standing.standing-index
    c.standing-item.result (meant_all c.loop-standing.reads.items) _ _ (λ _ _. refl) c.loop-standing-test.true c.standing-item.is
    c.in_ok-push_read.ensures c.loop-standing.invariant

pub returns : goal.returns
returns c =
    list_added (λ (xs : List Standing). flat_map read_standing (all_standing xs)) c.args.statements.now c.loop-standing.standing-index
    (meant_all c.loop-standing.reads.items) _ refl c.loop-standing-test.false c.loop-standing.invariant
