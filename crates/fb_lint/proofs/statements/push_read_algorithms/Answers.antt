use Rattle.fb_lint.proofs.lemmas.Common.{List, refl, Algorithm, flat_map, meant_all}
use Rattle.fb_lint.specs.Statements.{read_in}
use Rattle.fb_check.proofs.lemmas.types.GrowingLists.{list_added, one_added}
use Rattle.fb_lint.proofs.statements.push_read_algorithms.Goals as goal

pub loop-algorithm-preserved : goal.loop-algorithm-preserved
loop-algorithm-preserved c =
    one_added (λ (xs : List Algorithm). flat_map read_in xs) (read_in) c.args.algorithms.now c.loop-algorithm.algorithm-index
    c.algorithm-item.result (meant_all c.loop-algorithm.reads.items) _ _ (λ _ _. refl) c.loop-algorithm-test.true c.algorithm-item.is
    c.in_ok-push_read_in.ensures c.loop-algorithm.invariant

pub returns : goal.returns
returns c =
    list_added (λ (xs : List Algorithm). flat_map read_in xs) c.args.algorithms.now c.loop-algorithm.algorithm-index
    (meant_all c.loop-algorithm.reads.items) _ refl c.loop-algorithm-test.false c.loop-algorithm.invariant
