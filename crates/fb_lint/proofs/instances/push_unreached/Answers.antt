use Rattle.fb_lint.specs.Instances as spec
use Rattle.fb_lint.proofs.lemmas.WarningLists.{all_found, next_found}
use Rattle.fb_lint.proofs.instances.push_unreached.Goals as goal

pub loop-index-preserved : goal.loop-index-preserved
loop-index-preserved c =
    next_found (spec.unreached_of c.args.types.now.library.now c.args.site c.args.connections.now c.args.stimuli.now) c.args.instances.now c.loop-index.index c.index-instances-index.result c.loop-index.all.items _ _ c.loop-index-test.true c.index-instances-index.is
    c.in_ok-push_unreached_of.ensures
    c.loop-index.invariant

pub returns : goal.returns
returns c = all_found (spec.unreached_of c.args.types.now.library.now c.args.site c.args.connections.now c.args.stimuli.now) c.args.instances.now c.loop-index.index _ _ c.loop-index-test.false c.loop-index.invariant
