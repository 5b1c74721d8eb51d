use Rattle.fb_lint.proofs.lemmas.Common.{List, refl, flat_map, all_standing, standing_of, names_are}
use Rattle.fb_check.specs.declared.types.statements.Standing.{Standing}
use Rattle.fb_check.proofs.lemmas.types.GrowingLists.{list_added, one_added}
use Rattle.fb_lint.specs.Reads as spec
use Rattle.fb_lint.proofs.uses.push_assigned_by.Goals as goal

pub loop-standing-preserved : goal.loop-standing-preserved
loop-standing-preserved c =
    one_added (λ (xs : List Standing). flat_map spec.assigned_by (all_standing xs)) (λ (s : Standing). spec.assigned_by (standing_of s)) c.args.statements.now
    c.loop-standing.standing-index c.standing-item.result (names_are c.loop-standing.names.items) _ _ (λ _ _. refl) c.loop-standing-test.true c.standing-item.is
    c.in_ok-push_assigned.ensures c.loop-standing.invariant

pub returns : goal.returns
returns c =
    list_added (λ (xs : List Standing). flat_map spec.assigned_by (all_standing xs)) c.args.statements.now c.loop-standing.standing-index
    (names_are c.loop-standing.names.items) _ refl c.loop-standing-test.false c.loop-standing.invariant
