use Rattle.fb_lint.specs.Statements as spec
use Rattle.fb_lint.proofs.lemmas.WarningLists.{all_found, next_found}
use Rattle.fb_lint.proofs.statements.push_repeated_labels.Goals as goal

pub loop-algorithm-preserved : goal.loop-algorithm-preserved
loop-algorithm-preserved c =
    next_found (spec.repeated_of c.args.block) c.args.algorithms.now c.loop-algorithm.algorithm c.index-algorithms-algorithm.result c.loop-algorithm.all.items _ _ c.loop-algorithm-test.true c.index-algorithms-algorithm.is
    c.in_ok-push_repeated_in.ensures
    c.loop-algorithm.invariant

pub returns : goal.returns
returns c = all_found (spec.repeated_of c.args.block) c.args.algorithms.now c.loop-algorithm.algorithm _ _ c.loop-algorithm-test.false c.loop-algorithm.invariant
