use Rattle.fb_lint.proofs.lemmas.Common.{List, refl, flat_map, Algorithm, names_are}
use Rattle.fb_check.proofs.lemmas.types.GrowingLists.{list_added, one_added}
use Rattle.fb_lint.specs.Reads as spec
use Rattle.fb_lint.proofs.uses.assigned.Goals as goal

pub loop-algorithm-preserved : goal.loop-algorithm-preserved
loop-algorithm-preserved c =
    one_added (λ (xs : List Algorithm). flat_map spec.assigned_in xs) spec.assigned_in c.args.algorithms.now c.loop-algorithm.algorithm-index
    c.algorithm-item.result (names_are c.loop-algorithm.names.items) _ _ (λ _ _. refl) c.loop-algorithm-test.true c.algorithm-item.is
    c.in_ok-push_assigned_in.ensures c.loop-algorithm.invariant

pub returns : goal.returns
returns c =
    list_added (λ (xs : List Algorithm). flat_map spec.assigned_in xs) c.args.algorithms.now c.loop-algorithm.algorithm-index
    (names_are c.loop-algorithm.names.items) _ refl c.loop-algorithm-test.false c.loop-algorithm.invariant
