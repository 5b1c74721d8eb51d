use Rattle.fb_lint.proofs.lemmas.Common.{◌++◌, Bool, not, ◌∙◌, ap, when}
use Rattle.fb_lint.specs.declared.warning.Warning.TheVariants.{UnusedAlgorithm}
use Rattle.fb_lint.specs.Charts as spec
use Rattle.fb_lint.proofs.lemmas.WarningLists.{all_found, next_found}
use Rattle.fb_lint.proofs.charts.push_unused_algorithms.Goals as goal

pub loop-algorithm-preserved : goal.loop-algorithm-preserved
loop-algorithm-preserved c =
    next_found (spec.unused_algorithm c.args.block c.args.states.now) c.args.algorithms.now c.loop-algorithm.algorithm c.index-algorithms-algorithm.result c.loop-algorithm.all.items _ _ c.loop-algorithm-test.true c.index-algorithms-algorithm.is
    (c.in_ok-push_if.ensures ∙ ap (λ (b : Bool). c.loop-algorithm.all.items ++ when (not b) (UnusedAlgorithm c.args.block c.loop-algorithm.algorithm)) c.is_run-is_unused.ensures) c.loop-algorithm.invariant

pub returns : goal.returns
returns c = all_found (spec.unused_algorithm c.args.block c.args.states.now) c.args.algorithms.now c.loop-algorithm.algorithm _ _ c.loop-algorithm-test.false c.loop-algorithm.invariant
