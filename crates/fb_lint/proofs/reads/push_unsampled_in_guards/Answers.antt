use Rattle.fb_lint.specs.Reads as spec
use Rattle.fb_lint.proofs.lemmas.WarningLists.{all_found, next_found}
use Rattle.fb_lint.proofs.reads.push_unsampled_in_guards.Goals as goal

pub loop-index-preserved : goal.loop-index-preserved
loop-index-preserved c =
    next_found (spec.unsampled_at c.args.of.now.library.now c.args.of.now.name.now c.args.of.now.block c.args.events.now c.args.inputs.now) c.args.transitions.now c.loop-index.index c.index-transitions-index.result c.loop-index.all.items _ _ c.loop-index-test.true c.index-transitions-index.is
    c.in_ok-push_unsampled_at.ensures c.loop-index.invariant

pub returns : goal.returns
returns c = all_found (spec.unsampled_at c.args.of.now.library.now c.args.of.now.name.now c.args.of.now.block c.args.events.now c.args.inputs.now) c.args.transitions.now c.loop-index.index _ _ c.loop-index-test.false c.loop-index.invariant
