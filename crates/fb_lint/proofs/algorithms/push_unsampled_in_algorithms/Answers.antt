use Rattle.fb_lint.specs.Reads as spec
use Rattle.fb_lint.proofs.lemmas.WarningLists.{all_found, next_found}
use Rattle.fb_lint.proofs.algorithms.push_unsampled_in_algorithms.Goals as goal

pub loop-index-preserved : goal.loop-index-preserved
loop-index-preserved c =
    next_found (spec.unsampled_in c.args.of.now.library.now c.args.of.now.name.now (spec.chart_of c.args.chart.now) c.args.of.now.block c.args.inputs.now) c.args.algorithms.now c.loop-index.index c.index-algorithms-index.result c.loop-index.all.items _ _ c.loop-index-test.true c.index-algorithms-index.is
    c.in_ok-push_unsampled_in.ensures c.loop-index.invariant

pub returns : goal.returns
returns c = all_found (spec.unsampled_in c.args.of.now.library.now c.args.of.now.name.now (spec.chart_of c.args.chart.now) c.args.of.now.block c.args.inputs.now) c.args.algorithms.now c.loop-index.index _ _ c.loop-index-test.false c.loop-index.invariant
