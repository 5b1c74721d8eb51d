use Rattle.fb_lint.specs.Constants as spec
use Rattle.fb_lint.proofs.lemmas.WarningLists.{all_found, next_found}
use Rattle.fb_lint.proofs.constants.push_constants_of_algorithms.Goals as goal

pub loop-algorithm-preserved : goal.loop-algorithm-preserved
loop-algorithm-preserved c =
    next_found (spec.constants_in c.args.basic.now c.args.block) c.args.algorithms.now c.loop-algorithm.algorithm c.index-algorithms-algorithm.result c.loop-algorithm.all.items _ _ c.loop-algorithm-test.true c.index-algorithms-algorithm.is
    c.in_ok-push_constants_in.ensures
    c.loop-algorithm.invariant

pub returns : goal.returns
returns c = all_found (spec.constants_in c.args.basic.now c.args.block) c.args.algorithms.now c.loop-algorithm.algorithm _ _ c.loop-algorithm-test.false c.loop-algorithm.invariant
