use Rattle.fb_lint.proofs.lemmas.Common.{List, refl, flat_map, Algorithm, meant_all}
use Rattle.fb_check.proofs.lemmas.types.GrowingLists.{list_added, one_added}
use Rattle.fb_lint.specs.Reads as spec
use Rattle.fb_lint.proofs.uses.push_bodies.Goals as goal

pub loop-algorithm-preserved : goal.loop-algorithm-preserved
loop-algorithm-preserved c =
    one_added (λ (xs : List Algorithm). flat_map spec.mentions_of_algorithm xs) spec.mentions_of_algorithm c.args.algorithms.now c.loop-algorithm.algorithm-index
    c.algorithm-item.result (meant_all c.loop-algorithm.mentions.items) _ _ (λ _ _. refl) c.loop-algorithm-test.true c.algorithm-item.is c.in_ok-push_body.ensures
    c.loop-algorithm.invariant

pub returns : goal.returns
returns c =
    list_added (λ (xs : List Algorithm). flat_map spec.mentions_of_algorithm xs) c.args.algorithms.now c.loop-algorithm.algorithm-index
    (meant_all c.loop-algorithm.mentions.items) _ refl c.loop-algorithm-test.false c.loop-algorithm.invariant
